-- Contiguous chunks are idle if and only if an iteration over them yields no used block.
use Rattle.std.proofs.Common.{◌≡◌, ℕ, ◌<◌, ◌≤◌, ◌||◌, List, [], ◌∷◌, true, false, true≢false, arith, refl, inl, inr, sym, ap, ◌∙◌}
use Rattle.std.proofs.lemmas.Bool.{cases_lt}
use Rattle.rlsf_base.specs.declared.memory.range.Range.{Range}
use Rattle.rlsf_base.specs.Range.{end_of}
use Rattle.rlsf_model.specs.ChunkRows.{IsRow}
use Rattle.rlsf_model.specs.Lists.{IsIn}
use Rattle.rlsf_model.specs.Remove.{IsIdle}
use Rattle.rlsf_model.specs.State.{State, Used}
use Rattle.rlsf_model.specs.WellFormed.{coverage, IsWellFormed}
use Rattle.rlsf_model.proofs.Coverage.{by_test, coverage-IsIn, coverage-some, covers-inside}
use Rattle.rlsf_model.proofs.Payloads.{IsUsed-some}
use Rattle.rlsf_model.proofs.Tiling.{block_of}
use Rattle.rlsf_blocks.specs.Blocks.{AreBlocks, Block, used, free}
use Rattle.rlsf_tlsf.specs.Steps.UsedBlocks.{has_used}
use Rattle.rlsf_blocks.proofs.Words.Apart.{chunk_chunk, home_of_used}

-- where none of some blocks is used, each is free
none_used : (bs : List Block) → has_used bs ≡ false → (b : Block) → IsIn b bs → b.is_occupied ≡ false
none_used [] none b i = absurd i
none_used (c ∷ bs) none b i = by_test c.is_occupied
    (λ e. absurd (true≢false (sym (ap (λ t. t || has_used bs) e) ∙ none)))
    (λ e. elim i [
      | inl here ↦ ap (λ (x : Block). x.is_occupied) here ∙ e
      | inr there ↦ none_used bs (sym (ap (λ t. t || has_used bs) e) ∙ none) b there
    ])

-- where one of some blocks is used, a used one is among them
one_used : (bs : List Block) → has_used bs ≡ true → (b : Block) × IsIn b bs × (b.is_occupied ≡ true)
one_used [] some = absurd (true≢false (sym some))
one_used (c ∷ bs) some = by_test c.is_occupied
    (λ e. (c, inl refl, e))
    (λ e. let (b, i, is) = one_used bs (sym (ap (λ t. t || has_used bs) e) ∙ some) in (b, inr i, is))

module _ {fllen sllen : ℕ} {memory : Range} {s : State} (w : IsWellFormed fllen sllen memory s) (r : Range) (row : IsRow s r) (bs : List Block) (are : AreBlocks s r bs) where
  -- a used block with a byte in the chunks lies in them
  inside : (u : Used) → IsIn u s.used → (a : ℕ) → r.start ≤ a → a < end_of r → u.block.start ≤ a → a < end_of u.block
      → (r.start ≤ u.block.start) × (end_of u.block ≤ end_of r)
  inside u i a lo hi from to =
      let (c, j, low, c_from, c_to, high) = row a lo hi in
      let home = home_of_used w u i in
      let same = chunk_chunk w c home.chunk a j home.is_chunk (record { from = c_from; to = c_to })
      (record { from = omega (arith, home.from, from); to = omega (arith, home.to, to) }) in
      (omega (arith, low, home.from, ap (λ (x : Range). x.start) same), omega (arith, high, home.to, ap (λ (x : Range). end_of x) same))

  pub idle_if : has_used bs ≡ false → IsIdle s r
  idle_if none a lo hi = elim (cases_lt 0 (coverage block_of s.used a)) [
    | inl some ↦
        let (u, i, low, high) = coverage-some block_of s.used a some in
        let (from, to) = inside u i a lo hi low high in
        let b : Block = record { range = u.block; is_occupied = true } in
        absurd (true≢false (none_used bs none b ((are.exactly b).1 (used u i refl refl, from, to))))
    | inr less ↦ omega arith
  ]

  pub used_if : has_used bs ≡ true → ¬ (IsIdle s r)
  used_if some idle =
      let (b, i, occupied) = one_used bs some in
      let (has, from, to) = (are.exactly b).0 i in
      elim has [
        | used u j same is ↦
            let has_bytes = IsUsed-some u (w.used u j) in
            let at = u.block.start in
            let one = covers-inside u.block at (omega arith) (omega (arith, has_bytes)) in
            let more = coverage-IsIn block_of u s.used at j in
            let none = idle at (omega (arith, from, ap (λ (x : Range). x.start) same)) (omega (arith, has_bytes, to, ap (λ (x : Range). end_of x) same)) in
            absurd (omega (arith, one, more, none))
        | free j is ↦ absurd (true≢false (sym occupied ∙ is))
      ]
