-- Contiguous chunks without a used block may be removed.
use Rattle.std.proofs.Common.{◌≡◌, ℕ, ◌+◌, ◌<◌, ◌≤◌, arith, inl, inr, ap}
use Rattle.std.proofs.lemmas.Bool.{cases_lt}
use Rattle.rlsf_base.specs.declared.memory.range.Range.{Range}
use Rattle.rlsf_base.specs.Range.{end_of}
use Rattle.rlsf_model.specs.ChunkRows.{IsRow}
use Rattle.rlsf_model.specs.Insert.{IsUntouched}
use Rattle.rlsf_model.specs.Lists.{IsIn}
use Rattle.rlsf_model.specs.Remove.{IsIdle, IsRemovable, IsWithinOrOff, Removes}
use Rattle.rlsf_model.specs.State.{State}
use Rattle.rlsf_model.specs.WellFormed.{covers, coverage, itself, IsWellFormed}
use Rattle.rlsf_model.proofs.Coverage.{covers-inside, covers-le, coverage-some, coverage-unique, covers-some, coverage-IsIn}
use Rattle.rlsf_model.proofs.Removals.{removal_leaves_others}

module _ {fllen sllen : ℕ} {memory : Range} {s : State} (w : IsWellFormed fllen sllen memory s) (r : Range) (row : IsRow s r) (idle : IsIdle s r) where
  -- a chunk lies in the row, or has no address there
  chunk_whole : (c : Range) → IsIn c s.chunks → (a : ℕ) → 1 ≤ covers r a → 1 ≤ covers c a → (r.start ≤ c.start) × (end_of c ≤ end_of r)
  chunk_whole c i a in_row in_chunk =
      let (r_low, r_high) = covers-some r a in_row in
      let (low, high) = covers-some c a in_chunk in
      let (d, j, from, d_low, d_high, to) = row a r_low r_high in
      let same : c ≡ d = coverage-unique itself c d s.chunks a (w.disjoint a) i j (covers-inside c a low high) (covers-inside d a d_low d_high) in
      (omega (arith, from, ap (λ x. x.start) same), omega (arith, to, ap (λ x. end_of x) same))

  -- an address of both, if there is one
  within_or_off : (c : Range) → IsIn c s.chunks → IsWithinOrOff r c
  within_or_off c i = elim (cases_lt c.start (end_of r)) [
    | inr past ↦ inr (λ a. off a (λ l h m n. omega (arith, l, h, m, n)))
    | inl low ↦ elim (cases_lt r.start (end_of c)) [
      | inr over ↦ inr (λ a. off a (λ l h m n. omega (arith, l, h, m, n)))
      | inl high ↦ elim (cases_lt 0 r.len) [
        | inr none ↦ inr (λ a. off a (λ l h m n. omega (arith, l, h, none)))
        | inl some ↦
            let room = (w.chunks c i).has_room in
            elim (cases_lt c.start r.start) [
              | inl earlier ↦ inl (chunk_whole c i r.start (omega (arith, covers-inside r r.start (omega arith) (omega arith)))
                  (omega (arith, covers-inside c r.start (omega arith) (omega arith))))
              | inr later ↦ inl (chunk_whole c i c.start (omega (arith, covers-inside r c.start (omega arith) (omega arith)))
                  (omega (arith, covers-inside c c.start (omega arith) (omega arith))))
            ]
      ]
    ]
  ]
    where
      off : (a : ℕ) → (r.start ≤ a → a < end_of r → c.start ≤ a → a < end_of c → ⊥) → covers r a + covers c a ≤ 1
      off a apart = elim (cases_lt (covers r a) 1) [
        | inl none ↦ omega (arith, covers-le c a)
        | inr some ↦ elim (cases_lt (covers c a) 1) [
          | inl none ↦ omega (arith, covers-le r a)
          | inr both ↦ let here = covers-some r a some in let there = covers-some c a both in absurd (apart here.0 here.1 there.0 there.1)
        ]
      ]

  pub IsRemovable-row : IsRemovable s r
  IsRemovable-row = record { idle = idle; whole = within_or_off }

  -- it is untouched then, and so is each range that was
  pub untouched_gone : (t : State) → Removes s r t → IsUntouched t.chunks r
  unfolding IsUntouched
  untouched_gone t step = (removal_leaves_others fllen sllen memory s t r w IsRemovable-row step).0.clear

  pub untouched_removed : (t : State) → Removes s r t → (q : Range) → IsUntouched s.chunks q → IsUntouched t.chunks q
  unfolding IsUntouched
  untouched_removed t step q clear a from to =
      let left = (removal_leaves_others fllen sllen memory s t r w IsRemovable-row step).0 in
      elim (cases_lt (coverage itself t.chunks a) 1) [
        | inl none ↦ omega arith
        | inr some ↦
            let (c, i, low, high) = coverage-some itself t.chunks a some in
            absurd (omega (arith, clear a from to, coverage-IsIn itself c s.chunks a (left.were c i), covers-inside c a low high))
      ]
