use Rattle.std.proofs.Common.{◌≡◌, ◌+◌, ◌-◌, ◌*◌, ◌/◌, ◌^◌, ◌≤◌, Some, arith, inl, inr, refl, sym, ◌∙◌, ap, subst}
use Rattle.std.proofs.lemmas.Bool.{cases_lt}
use Rattle.std.specs.Int.NonZero.{non_zero_usize_get}
use Rattle.std.specs.Option.{option_map}
use Rattle.rlsf_base.specs.Range.{range_at}
use Rattle.rlsf_model_sizes.specs.Rounding.{round32}
use Rattle.rlsf_base.proofs.Numbers.Roundings.{round32-le}
use Rattle.rlsf_blocks.specs.Steps.Pool.{IsAdded, IsNewChunk}
use Rattle.rlsf_blocks.proofs.Words.NonZeroNumbers.{number, on_none}
use Rattle.rlsf_blocks.proofs.Chunks.Pools.{IsFilled, IsFilled-end, IsFilled-init, IsFilled-next, IsNewChunk-next, nothing_inserted}
use Rattle.rlsf_table.proofs.Costs.{Costs-same, Costs-within}
use Rattle.rlsf_blocks.proofs.pool.insert_chunks.Goals as goal
use Rattle.rlsf_blocks.proofs.pool.insert_chunks.Goals.{then-start-first, else-start-first}

pub returns-in_default : goal.returns-in_default
returns-in_default g c = record {
  step = λ s v fresh.
      nothing_inserted v c.args.range fresh (omega (arith, c.if-first-end.false));
  refused = refl;
  own = λ a from. refl;
  here = λ a from is. is;
  costs = Costs-within (omega arith) (Costs-same c.args.memory.now c.args.memory.now refl);
}

pub returns-in_default-2 : goal.returns-in_default-2
returns-in_default-2 g c = record {
  step = λ s v fresh.
      let past : 2 ^ 64 ≤ round32 c.args.range.start = elim (cases_lt (round32 c.args.range.start) (2 ^ 64)) [
        | inl below ↦ absurd (c.in_default.ensures (omega arith, below))
        | inr above ↦ above
      ] in
      nothing_inserted v c.args.range fresh (omega (arith, v.well_formed.addressable));
  refused = refl;
  own = λ a from. refl;
  here = λ a from is. is;
  costs = Costs-within (omega arith) (Costs-same c.args.memory.now c.args.memory.now refl);
}

pub loop-left-init : goal.loop-left-init
loop-left-init g c = λ s v fresh.
    let first : c.in-Some.first ≡ round32 c.args.range.start = c.in-Some.ensures.1 in
    IsFilled-init v c.args.range fresh _ _ first (ap (λ a. (c.args.range.start + c.args.range.len - a) / 32 * 32) first) c.if-first-end.true

pub add_chunk-requires : goal.add_chunk-requires
add_chunk-requires g c =
    let (s, v, fresh) = c.requires.fresh in
    let filled = c.loop-left.invariant s v fresh in
    let new = IsNewChunk-next v c.args.range fresh filled (omega arith) c.requires.own in (
      omega arith,
      (
        c.requires.parameters,
        (
          filled.now,
          filled.stands,
          subst (λ n. IsNewChunk g.row.FLLEN g.row.SLLEN c.loop-left.memory filled.now (range_at c.loop-left.start n)) (sym c.chunk_length-len.ensures.value) new,
        ),
      ),
    )

pub overflow_add-start : goal.overflow_add-start
overflow_add-start g c =
    let (s, v, fresh) = c.requires.fresh in
    omega (arith, (c.loop-left.invariant s v fresh).to, c.chunk_length-len.ensures.bounds, v.well_formed.addressable)

pub loop-left-preserved : goal.loop-left-preserved
loop-left-preserved g c = λ s v fresh.
    let filled = c.loop-left.invariant s v fresh in
    let same = c.chunk_length-len.ensures.value in
    let new = IsNewChunk-next v c.args.range fresh filled (omega arith) c.requires.own in
    let made =
    c.add_chunk.ensures.step filled.now filled.stands
    (subst (λ n. IsNewChunk g.row.FLLEN g.row.SLLEN c.loop-left.memory filled.now (range_at c.loop-left.start n)) (sym same) new) in
    let added =
    subst (λ n. IsAdded g.row.FLLEN g.row.SLLEN c.loop-left.memory c.add_chunk.new.memory c.add_chunk.new.table filled.now.free (range_at c.loop-left.start n)) same made in
    subst (λ n. IsFilled g.row.FLLEN g.row.SLLEN c.args.memory.now s c.args.range c.add_chunk.new.memory c.add_chunk.new.table (c.loop-left.start + n) (c.loop-left.left - n))
    (sym same)
    (IsFilled-next v c.args.range fresh filled (omega arith) c.requires.own c.add_chunk.new.memory c.add_chunk.new.table added c.add_chunk.ensures.costs)

pub overflow_sub-taken : goal.overflow_sub-taken
overflow_sub-taken g c =
    let (s, v, fresh) = c.requires.fresh in
    omega (arith, (c.loop-left.invariant s v fresh).from, round32-le c.args.range.start)

pub returns : goal.returns
returns g c =
    let (s, v, fresh) = c.requires.fresh in
    let filled = c.loop-left.invariant s v fresh in
    let first : c.in-Some.first ≡ round32 c.args.range.start = c.in-Some.ensures.1 in
    record {
      step = λ s v fresh.
          let filled = c.loop-left.invariant s v fresh in
          let answer = number c.new.result c.if-start-first.taken c.new.ensures in
          IsFilled-end v c.args.range fresh filled (omega arith) (option_map non_zero_usize_get c.new.result)
          (λ at. answer.0 (elim c.if-start-first.branch [ then-start-first w ↦ w.taken-is | else-start-first w ↦ absurd (w.if-start-first.false (at ∙ sym first)) ]))
          (λ past. elim c.if-start-first.branch [
            | then-start-first w ↦ absurd (past (w.if-start-first.true ∙ first))
            | else-start-first w ↦ answer.1 (omega (arith, w.taken-is, filled.from, past)) ∙ ap Some w.taken-is
          ]);
      refused = on_none c.new.result c.if-start-first.taken c.new.ensures (λ none. filled.untouched (elim c.if-start-first.branch [
        | then-start-first w ↦ w.if-start-first.true ∙ first
        | else-start-first w ↦ omega (arith, w.taken-is, filled.from, round32-le c.args.range.start)
      ]));
      own = filled.stays.own;
      here = filled.stays.here;
      costs = record {
        start = ap (λ p. p.start) filled.place;
        length = ap (λ p. p.len) filled.place;
        touches = omega (arith, filled.touches);
        grow = filled.grow;
        copied = omega (arith, filled.copied);
        view = filled.view;
        none = filled.none;
      };
    }
