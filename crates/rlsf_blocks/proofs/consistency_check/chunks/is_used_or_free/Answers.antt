use Rattle.std.proofs.Common.{◌≡◌, ℕ, ◌+◌, ◌-◌, ◌%◌, arith, refl, sym, inl, inr, subst}
use Rattle.rlsf_blocks.proofs.Deallocate.TakenIfFree.{odd_from}
use Rattle.rlsf_base.specs.Range.{range_at}
use Rattle.rlsf_blocks.specs.Consistency.Linked.{IsLinked}
use Rattle.rlsf_blocks.proofs.consistency_check.chunks.is_used_or_free.Goals as goal

pub returns : goal.returns
returns g c =
    let even : c.args.size % 2 ≡ 0 = c.if-not-is_free.ensures.0 refl in
    let size : c.args.size ≡ c.args.len = elim c.requires.size [ inl is ↦ is | inr more ↦ absurd (omega (arith, more, even, c.requires.len.1)) ] in
    let odd = odd_from c.word.result c.is_free-2.ensures c.if-is_free.false in
    let len : c.args.len ≡ c.args.block + c.args.len - c.args.block = omega arith in
    let at : ℕ → Type 0 = λ n. IsLinked g.row.FLLEN g.row.SLLEN c.args.pools.now c.args.memory.now c.args.table.now (range_at c.args.block n) in (
      λ linked. inr (omega (arith, size, c.requires.word, len), omega (arith, odd, c.word.ensures), subst at len (c.is_linked.ensures.0 linked)),
      λ kind. elim kind [
        | inl used ↦ absurd (omega (arith, used, size, c.requires.word))
        | inr (_, _, linked) ↦ c.is_linked.ensures.1 (subst at (sym len) linked)
      ],
    )
