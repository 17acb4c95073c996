use Rattle.std.proofs.Common.{◌≡◌, ◌+◌, ◌-◌, ◌≤◌, ◌⊎◌, ◌∙◌, ap, arith, drop, inl, inr, length, refl, sym, take}
use Rattle.std.specs.List.{splice}
use Rattle.rlsf_base.specs.Changes.{came_back}
use Rattle.rlsf_base.specs.Range.{range_at}
use Rattle.rlsf_base.specs.Space.{Space, bytes_in, with_bytes}
use Rattle.rlsf_base.specs.Steps.Block.{start_of}
use Rattle.rlsf_base.specs.OpenSpace.{out_with}
use Rattle.rlsf_base.proofs.Lending.BytesBeside.{with-here, with-same_own, with-stays}
use Rattle.rlsf_base.proofs.Lending.Memories.{with_contents}
use Rattle.rlsf_base.proofs.Lending.Placed.{can_lend, can_write, placed}
use Rattle.rlsf_base.proofs.Words.Splices.{length-part, length-splice}
use Rattle.rlsf_base.proofs.memory.open_memory.OpenMemory.copy_units_at.Goals as goal

pub copy_units-requires : goal.copy_units-requires
copy_units-requires c =
    let from = can_lend c.self.invariant c.self.view_is c.requires.view (omega arith) c.args.range c.requires.from c.place-from.ensures c.requires.here in
    let there = range_at c.args.to c.args.range.len in
    let to = can_write c.self.invariant c.self.view_is c.requires.view (omega arith) there c.requires.to c.place-place.ensures c.requires.own in
    let m = c.self.inside in let now = c.args.self.now in
    let first : c.place-from.result - m.bytes.skip ≡ c.args.range.start - now.start =
    placed c.self.invariant c.self.view_is c.requires.view (omega arith) c.args.range c.requires.from c.place-from.ensures in
    let second : c.place-place.result - m.bytes.skip ≡ c.args.to - now.start =
    placed c.self.invariant c.self.view_is c.requires.view (omega arith) there c.requires.to c.place-place.ensures in
    let side : (c.place-from.result + c.args.range.len ≤ c.place-place.result) ⊎ (c.place-place.result ≤ c.place-from.result) = elim c.requires.units.1 [
      | inl behind ↦ inl (omega (arith, behind, first, second, from.1.0, to.1.0, c.requires.from, c.requires.to))
      | inr before ↦ inr (omega (arith, before, first, second, from.1.0, to.1.0, c.requires.from, c.requires.to))
    ] in
    ((from.0, from.1.0, to.1.0, omega arith), ((from.1.1, to.1.1), ((c.requires.units.0, side), refl)))

pub returns : goal.returns
returns c =
    let m = c.self.inside in let now = c.args.self.now in let is = c.self.view_is in let range = c.args.range in let there = range_at c.args.to range.len in
    let new = c.copy_units.new.bytes in let e = c.copy_units.ensures in let counted = c.count_copy.ensures in
    let n : Space = with_contents now (start_of m.shift m.len_and_skip) new.bytes new.out in
    let from : c.place-from.result - m.bytes.skip ≡ range.start - now.start =
    placed c.self.invariant is c.requires.view (omega arith) range c.requires.from c.place-from.ensures in
    let to : c.place-place.result - m.bytes.skip ≡ c.args.to - now.start =
    placed c.self.invariant is c.requires.view (omega arith) there c.requires.to c.place-place.ensures in
    let moved = bytes_in now range in
    let long : length moved ≡ range.len = length-part range.len (range.start - now.start) now.bytes (omega (arith, c.requires.from)) in
    let start : n.start ≡ now.start = ap (λ (s : Space). s.start) is in
    let out : n.out ≡ out_with now there = e.1 ∙ (λ i. came_back (to i) range.len (is i).out) in
    let bytes : n.bytes ≡ with_bytes now c.args.to moved =
    e.0.2 ∙ (λ i. splice (is i).bytes (to i) (to i + sym long i) (take range.len (drop (from i) (is i).bytes))) in
    record {
      memory = record { start = start; view = ap (λ (s : Space). s.view) is; bytes = bytes; out = out };
      len = ap length bytes ∙ length-splice now.bytes moved (c.args.to - now.start) (length moved) (omega (arith, c.requires.to, long)) refl;
      counts = (counted.0 ∙ ap (λ (s : Space). s.touches) is, counted.1 ∙ ap (λ (s : Space). s.copied + range.len) is);
      own = with-same_own now n there c.requires.to.0 start out c.requires.own;
      here = with-here now n there c.requires.to.0 start out;
      stays = with-stays now n there c.requires.to.0 start out;
    }
