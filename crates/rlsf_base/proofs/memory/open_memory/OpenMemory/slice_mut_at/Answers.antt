use Rattle.std.proofs.Common.{◌≡◌, ◌-◌, ◌∙◌, ap, arith, drop, List, ℕ, refl, sym, take}
use Rattle.rlsf_base.specs.Lends.{lent_space, refilled}
use Rattle.rlsf_base.specs.Space.{Space, bytes_in}
use Rattle.rlsf_base.specs.Steps.Block.{start_of, view_of}
use Rattle.rlsf_base.proofs.Lending.Placed.{can_lend, placed}
use Rattle.rlsf_base.proofs.memory.open_memory.OpenMemory.slice_mut_at.Goals as goal

pub slice_mut-requires : goal.slice_mut-requires
slice_mut-requires c = can_lend c.self.invariant c.self.view_is c.requires.view (omega arith) c.args.range c.requires.place c.place.ensures c.requires.here

pub returns : goal.returns
returns c =
    let m = c.self.inside in
    let start : start_of m.shift m.len_and_skip ≡ c.args.self.now.start = ap (λ (s : Space). s.start) c.self.view_is in
    let place : c.place.result - m.bytes.skip ≡ c.args.range.start - start_of m.shift m.len_and_skip =
    placed c.self.invariant c.self.view_is c.requires.view (omega arith) c.args.range c.requires.place c.place.ensures ∙ ap (λ n. c.args.range.start - n) (sym start) in
    let left : List ℕ → ℕ → Space = λ w n. record {
      start = start_of m.shift m.len_and_skip;
      bytes = refilled m.bytes.bytes n c.args.range.len w;
      touches = m.counters.touches;
      copied = m.counters.copied;
      view = view_of m.base m.shift;
      out = m.bytes.out;
    } in
    let value = c.slice_mut.ensures.value ∙ ap (λ n. take c.args.range.len (drop n m.bytes.bytes)) place ∙ ap (λ (s : Space). bytes_in s c.args.range) c.self.view_is in
    ((refl, λ w. ap (left w) place ∙ ap (λ (s : Space). lent_space s c.args.range.start c.args.range.len w) c.self.view_is), record { writes_back = tt; value = value })
