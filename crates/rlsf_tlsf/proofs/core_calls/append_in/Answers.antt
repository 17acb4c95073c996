use Rattle.std.proofs.Common.{◌≡◌, arith, sym, ◌∙◌, ap}
use Rattle.rlsf_base.specs.Space.{range_of}
use Rattle.rlsf_model.specs.Insert.{Appends}
use Rattle.rlsf_model.specs.Run.{append}
use Rattle.rlsf_model.proofs.BudgetWords.{budget_kept}
use Rattle.rlsf_model.proofs.CallerWords.{same_seen}
use Rattle.rlsf_model.proofs.Callers.{callers_see_map}
use Rattle.rlsf_model.proofs.Chunks.{used-appended}
use Rattle.rlsf_model.proofs.SizedWords.{count_appended, sized_appended}
use Rattle.rlsf_model.proofs.AppendedRanges.{untouched_appended}
use Rattle.rlsf_table.proofs.Costs.{SamePlace-costs, copied_none}
use Rattle.rlsf_blocks.specs.Laws.{read_from}
use Rattle.rlsf_tlsf.specs.Steps.Moves.{appended_to, bare}
use Rattle.rlsf_tlsf.proofs.LiveBytes.{bytes_same_used}
use Rattle.rlsf_tlsf.proofs.Moved.{appended_to-bare}
use Rattle.rlsf_tlsf.proofs.Reached.{LeavesCore-arrived, bare-core, reads}
use Rattle.rlsf_tlsf.proofs.core_calls.append_in.Goals as goal

pub append_chunks-taken-requires : goal.append_chunks-taken-requires
append_chunks-taken-requires g c = (omega arith, (c.requires.core.valid, ((_, c.requires.core.stands, c.requires.next), c.requires.own)))

pub returns : goal.returns
returns g c =
    let s = read_from c.args.memory.now c.args.state.now.state in
    let k = c.append.new.self.state in
    let t = read_from c.append_chunks-taken.new.memory k in
    let r = c.args.range in
    let taken = c.append_chunks-taken.result in
    let are = c.requires.core in
    let well = are.stands.well_formed in
    let e = c.append_chunks-taken.ensures in
    let (after, did, stands, spare) = e.step s are.stands c.requires.next in
    let kept : k ≡ bare after = c.append.ensures ∙ ap (appended_to g.row.FLLEN r) (sym (bare-core are)) ∙ appended_to-bare g.row.FLLEN s after r taken did in
    let step : Appends g.row.FLLEN s r taken t = reads stands k kept (Appends g.row.FLLEN s r taken) did in
    let seen = same_seen s t (callers_see_map g.row.FLLEN g.row.SLLEN (range_of c.args.memory.now) s t (append r taken) well c.requires.next step) in
    record {
      left = LeavesCore-arrived stands k kept are.valid spare e.costs e.own e.here;
      step = step;
      result = record {
        untouched = untouched_appended g.row.FLLEN s t r taken step;
        budgets = λ count bytes size align sized. budget_kept well t count bytes size align sized (append r taken) (λ removal. removal) step;
        blocks = bytes_same_used s t (used-appended g.row.FLLEN s t r taken step);
      };
      bounds = λ count size align sized. sized_appended well t count size align sized r taken c.requires.next step;
      refused = e.unchanged;
      frame = assumption (seen, count_appended well t r taken c.requires.next step, SamePlace-costs e.costs, copied_none e.costs, e.costs);
    }
