use Rattle.std.proofs.Common.{◌≡◌, ◌+◌, ◌*◌, ◌≤◌, length, arith, refl, sym, ◌∙◌, ap}
use Rattle.rlsf_base.specs.Space.{range_of}
use Rattle.rlsf_model.specs.Remove.{Removes, removed}
use Rattle.rlsf_model.specs.Run.{remove}
use Rattle.rlsf_model.specs.State.{State}
use Rattle.rlsf_model.proofs.CallerWords.{same_seen}
use Rattle.rlsf_model.proofs.Callers.{callers_see_map}
use Rattle.rlsf_model.proofs.SizedWords.{count_removed}
use Rattle.rlsf_blocks.specs.Blocks.{walked}
use Rattle.rlsf_blocks.specs.Laws.{read_from}
use Rattle.rlsf_blocks.specs.Spare.{KeepsSpare}
use Rattle.rlsf_tlsf.specs.Steps.Moves.{bare}
use Rattle.rlsf_tlsf.proofs.LiveBytes.{bytes_same_used}
use Rattle.rlsf_tlsf.proofs.Reached.{IsCore-arrived, bare-core, reads}
use Rattle.rlsf_tlsf.proofs.Removed.{IsRemovable-row, untouched_gone, untouched_removed}
use Rattle.rlsf_tlsf.proofs.core_calls.remove_in.Goals as goal

pub remove_chunks-requires : goal.remove_chunks-requires
remove_chunks-requires g c = (omega arith, (c.requires.core.valid, (_, c.requires.core.stands, c.requires.row, c.requires.idle)))

pub returns : goal.returns
returns g c =
    let m = c.args.memory.now in
    let n = c.remove_chunks.new.memory in
    let s = read_from m c.args.state.now.state in
    let k = c.remove.new.self.state in
    let t = read_from n k in
    let r = walked c.args.range in
    let row = c.requires.row in
    let idle = c.requires.idle in
    let are = c.requires.core in
    let well = are.stands.well_formed in
    let e = c.remove_chunks.ensures in
    let (stands, spare) = e.step s are.stands row idle in
    let kept : k ≡ bare (removed r s) = c.remove.ensures ∙ ap (removed r) (sym (bare-core are)) in
    let step : Removes s r t = reads stands k kept (Removes s r) refl in
    let seen = same_seen s t (callers_see_map g.row.FLLEN g.row.SLLEN (range_of m) s t (remove r) well (IsRemovable-row well r row idle) step) in
    let counts = e.touches s are.stands row idle in
    let touches : n.touches + 9 * length t.chunks ≤ m.touches + 9 * length s.chunks =
    reads stands k kept (λ (x : State). n.touches + 9 * length x.chunks ≤ m.touches + 9 * length s.chunks) counts in
    record {
      left = record {
        core = IsCore-arrived stands k kept are.valid;
        spare = reads stands k kept (KeepsSpare m s n) (λ a from to here there. spare a from to here here);
        costs = record {
          start = e.place.0;
          length = e.place.1;
          touches = omega (arith, touches);
          grow = e.grow;
          copied = omega (arith, e.copied);
          view = e.place.2;
          none = e.place.3;
        };
        own = e.own;
        here = e.here;
      };
      step = step;
      result = record {
        untouched = untouched_removed well r row idle t step;
        gone = untouched_gone well r row idle t step;
        blocks = bytes_same_used s t (ap (λ (x : State). x.used) step);
      };
      frame = assumption (seen, count_removed well t r (IsRemovable-row well r row idle) step, e);
      touches = touches;
    }
