-- What is behind a used block, and before it.
use Rattle.std.proofs.Common.{◌≡◌, ℕ, ◌-◌, ◌<◌, arith, inl, inr, ap}
use Rattle.std.proofs.lemmas.Bool.{cases_lt}
use Rattle.rlsf_base.specs.declared.memory.range.Range.{Range}
use Rattle.rlsf_base.specs.Range.{end_of}
use Rattle.rlsf_blocks.specs.InBand.{sentinel_of}
use Rattle.rlsf_model.specs.Lists.{IsIn}
use Rattle.rlsf_model.specs.State.{State, Used}
use Rattle.rlsf_model.specs.WellFormed.{coverage, itself, last_bytes, IsWellFormed}
use Rattle.rlsf_model.proofs.Coverage.{covers-inside, coverage-IsIn, coverage-some}
use Rattle.rlsf_model.proofs.Payloads.{IsUsed-some}
use Rattle.rlsf_model.proofs.Tiling.{block_of}
use Rattle.rlsf_blocks.proofs.Words.Apart.{Has, used_free, used_used, used_last, chunk_chunk, home_of_used}

-- what begins at an address: a free range, a used block, or the last bytes of a chunk
pub data Behind (s : State) (a : ℕ) : Type 0 where
  free_behind : (f : Range) → IsIn f s.free → f.start ≡ a → Behind s a
  used_behind : (v : Used) → IsIn v s.used → v.block.start ≡ a → Behind s a
  last_behind : (c : Range) → IsIn c s.chunks → sentinel_of c ≡ a → Behind s a

-- what ends at an address: a free range, a used block, or nothing, and a chunk begins there
pub data Before (s : State) (a : ℕ) : Type 0 where
  free_before : (f : Range) → IsIn f s.free → end_of f ≡ a → Before s a
  used_before : (v : Used) → IsIn v s.used → end_of v.block ≡ a → Before s a
  none_before : (c : Range) → IsIn c s.chunks → c.start ≡ a → Before s a

-- an address of a free range, of a used block, or of the last bytes of a chunk
pub data Place (s : State) (a : ℕ) : Type 0 where
  in_free : (f : Range) → IsIn f s.free → Has f a → Place s a
  in_used : (v : Used) → IsIn v s.used → Has v.block a → Place s a
  in_last : (c : Range) → IsIn c s.chunks → Has (last_bytes c) a → Place s a

module _ {fllen sllen : ℕ} {memory : Range} {s : State} (w : IsWellFormed fllen sllen memory s) where
  -- each address of a chunk has a place
  pub place_of : (c : Range) → IsIn c s.chunks → (a : ℕ) → Has c a → Place s a
  place_of c ic a h = elim (cases_lt 0 (coverage itself s.free a)) [
    | inl some ↦ let (f, i, from, to) = coverage-some itself s.free a some in in_free f i (record { from = from; to = to })
    | inr no_free ↦ elim (cases_lt 0 (coverage block_of s.used a)) [
      | inl some ↦ let (v, i, from, to) = coverage-some block_of s.used a some in in_used v i (record { from = from; to = to })
      | inr no_used ↦
          let (d, i, from, to) = coverage-some last_bytes s.chunks a (omega (arith, w.tiled a, coverage-IsIn itself c s.chunks a ic, covers-inside c a h.from h.to)) in
          in_last d i (record { from = from; to = to })
    ]
  ]

  -- a range that begins in another's bytes or at its end begins at its end, if the two have no address in common
  begins_at_end : (r q : Range) → 0 < r.len → ((a : ℕ) → Has r a → Has q a → ⊥) → Has q (end_of r) → q.start ≡ end_of r
  begins_at_end r q some apart h = grind (arith, cases_lt)

  module _ (u : Used) (i : IsIn u s.used) where
    pub behind_used : Behind s (end_of u.block)
    behind_used =
        let some = IsUsed-some u (w.used u i) in
        let home = home_of_used w u i in
        elim (place_of home.chunk home.is_chunk (end_of u.block) (record { from = omega (arith, home.from); to = omega (arith, home.to) })) [
          | in_free f j h ↦ free_behind f j (begins_at_end u.block f some (λ a hu hf. used_free w u f a i j hu hf) h)
          | in_used v j h ↦
              used_behind v j (elim (cases_lt v.block.start (end_of u.block)) [
                | inl before ↦
                    let last : Has u.block (end_of u.block - 1) = record { from = omega arith; to = omega arith } in
                    let same = used_used w u v (end_of u.block - 1) i j last (record { from = omega arith; to = omega (arith, h.to) }) in
                    absurd (omega (arith, h.to, ap (λ x. end_of x.block) same))
                | inr behind ↦ omega (arith, h.from)
              ])
          | in_last c j h ↦
              last_behind c j (begins_at_end u.block (last_bytes c) some (λ a hu hc. used_last w u c a i j hu (omega (arith, hc.from)) (omega (arith, hc.to))) h)
        ]

    pub before_used : Before s u.block.start
    before_used =
        let some = IsUsed-some u (w.used u i) in
        let home = home_of_used w u i in
        elim (cases_lt home.chunk.start u.block.start) [
          | inr first ↦ none_before home.chunk home.is_chunk (omega (arith, home.from))
          | inl inside ↦ elim (place_of home.chunk home.is_chunk (u.block.start - 1) (record { from = omega arith; to = omega (arith, home.to) })) [
            | in_free f j h ↦
                free_before f j (elim (cases_lt u.block.start (end_of f)) [
                  | inl over ↦ absurd (used_free w u f u.block.start i j (record { from = omega arith; to = omega arith }) (record { from = omega (arith, h.from); to = over }))
                  | inr up_to ↦ omega (arith, h.to)
                ])
            | in_used v j h ↦
                used_before v j (elim (cases_lt u.block.start (end_of v.block)) [
                  | inl over ↦
                      let same = used_used w u v u.block.start i j (record { from = omega arith; to = omega arith }) (record { from = omega (arith, h.from); to = over }) in
                      absurd (omega (arith, h.from, ap (λ x. x.block.start) same))
                  | inr up_to ↦ omega (arith, h.to)
                ])
            | in_last c j h ↦
                let room = (w.chunks c j).has_room in
                let same =
                chunk_chunk w home.chunk c (u.block.start - 1) home.is_chunk j (record { from = omega arith; to = omega (arith, home.to) })
                (record { from = omega (arith, h.from); to = omega (arith, h.to) }) in
                absurd (omega (arith, h.from, home.to, ap (λ r. end_of r) same))
          ]
        ]
