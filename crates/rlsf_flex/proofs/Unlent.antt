-- Usable bytes of live payloads change, and no other byte: the allocator over a source represents the state with the bytes that are there.
use Rattle.std.proofs.Common.{ℕ, List, arith, inl, inr, refl}
use Rattle.std.proofs.lemmas.Bool.{cases_lt}
use Rattle.rlsf_base.specs.declared.memory.range.Range.{Range}
use Rattle.rlsf_base.specs.Range.{end_of}
use Rattle.rlsf_blocks.specs.Laws.{read_from}
use Rattle.rlsf_blocks.specs.Spare.{IsSpare}
use Rattle.rlsf_blocks.specs.StandsFor.{IsUnlent}
use Rattle.rlsf_blocks.proofs.Payloads.Unlent.{words_read_no_payload}
use Rattle.rlsf_blocks.proofs.Words.Apart.{home_of_used}
use Rattle.rlsf_flex.specs.Laws.{FlexStatesAreWellFormed, FlexWordsReadNoPayload}
use Rattle.rlsf_flex.proofs.Frames.{stands_kept}
use Rattle.rlsf_flex.proofs.InnerAllocator.{flex_stood}
use Rattle.rlsf_model.specs.State.{State}
use Rattle.rlsf_model.specs.Terms.{Terms}
use Rattle.rlsf_model.specs.WellFormed.{IsWellFormed}
use Rattle.rlsf_model.proofs.Payloads.{IsUsed-after_start}

-- a byte that no block is made of is no usable byte of a live payload
spare_unlent : {fllen sllen : ℕ} {memory : Range} {s : State} → IsWellFormed fllen sllen memory s → (a : ℕ) → IsSpare s a → IsUnlent s a
spare_unlent w a spare u i = elim (cases_lt a u.payload) [
  | inl before ↦ inl before
  | inr from ↦ elim (cases_lt a (end_of u.block)) [
    | inr behind ↦ inr behind
    | inl to ↦
        let home = home_of_used w u i in
        let inside = IsUsed-after_start u (w.used u i) in
        absurd (omega (arith, spare home.chunk home.is_chunk (omega (arith, home.from, from, inside)) (omega (arith, home.to, to)), home.to, to))
  ]
]

module _ {S : Type 0} (terms : S → Terms) (owes : S → List Range → Type 0) where
  pub flex_states_are_well_formed : FlexStatesAreWellFormed terms owes
  flex_states_are_well_formed fllen sllen v stands = (flex_stood v stands).well_formed

  pub flex_words_read_no_payload : FlexWordsReadNoPayload terms owes
  flex_words_read_no_payload fllen sllen v n words h differs =
      let again = words_read_no_payload fllen sllen v.memory n v.table v.state.machine words differs in (
        again,
        stands_kept h (record { memory = n; table = v.table; state = read_from n v.state.machine }) again.nonzero again.payloads.bytes again.well_formed refl
            (λ a low high spare both. differs.bytes a low (spare_unlent h.well_formed.machine a spare))
            (λ a low spare both. differs.out a low (spare_unlent h.well_formed.machine a spare)) differs.start differs.length,
      )
