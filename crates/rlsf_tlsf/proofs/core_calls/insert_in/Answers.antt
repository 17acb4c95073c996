use Rattle.std.proofs.Common.{◌≡◌, arith, sym, ◌∙◌, ap}
use Rattle.rlsf_base.specs.Addr.{reply}
use Rattle.rlsf_base.specs.Space.{range_of}
use Rattle.rlsf_model.specs.Insert.{Inserts}
use Rattle.rlsf_model.specs.Run.{insert}
use Rattle.rlsf_model.proofs.BudgetWords.{budget_kept, budget_pool}
use Rattle.rlsf_model.proofs.CallerWords.{same_seen}
use Rattle.rlsf_model.proofs.Callers.{callers_see_map}
use Rattle.rlsf_model.proofs.Chunks.{used-inserted}
use Rattle.rlsf_model.proofs.SizedWords.{count_inserted, sized_inserted, sized_pool}
use Rattle.rlsf_model.proofs.Untouched.{untouched_inserted}
use Rattle.rlsf_table.proofs.Costs.{SamePlace-costs, copied_none}
use Rattle.rlsf_blocks.specs.Laws.{read_from}
use Rattle.rlsf_tlsf.specs.Steps.Moves.{bare, inserted}
use Rattle.rlsf_tlsf.proofs.LiveBytes.{bytes_same_used}
use Rattle.rlsf_tlsf.proofs.Moved.{inserted-bare}
use Rattle.rlsf_tlsf.proofs.Reached.{LeavesCore-arrived, bare-core, reads}
use Rattle.rlsf_tlsf.proofs.core_calls.insert_in.Goals as goal

pub insert_chunks-taken-requires : goal.insert_chunks-taken-requires
insert_chunks-taken-requires g c = (omega arith, (c.requires.core.valid, ((_, c.requires.core.stands, c.requires.fresh), c.requires.own)))

pub returns : goal.returns
returns g c =
    let s = read_from c.args.memory.now c.args.state.now.state in
    let k = c.insert.new.self.state in
    let t = read_from c.insert_chunks-taken.new.memory k in
    let r = c.args.range in
    let taken = reply c.insert_chunks-taken.result in
    let are = c.requires.core in
    let well = are.stands.well_formed in
    let e = c.insert_chunks-taken.ensures in
    let (after, did, stands, spare) = e.step s are.stands c.requires.fresh in
    let kept : k ≡ bare after = c.insert.ensures ∙ ap (inserted g.row.FLLEN r) (sym (bare-core are)) ∙ inserted-bare g.row.FLLEN s after r taken did in
    let step : Inserts g.row.FLLEN s r taken t = reads stands k kept (Inserts g.row.FLLEN s r taken) did in
    let seen = same_seen s t (callers_see_map g.row.FLLEN g.row.SLLEN (range_of c.args.memory.now) s t (insert r taken) well c.requires.fresh step) in
    record {
      left = LeavesCore-arrived stands k kept are.valid spare e.costs e.own e.here;
      step = step;
      result = record {
        untouched = untouched_inserted g.row.FLLEN s t r taken step;
        pool = λ count size align len told at32 long idle.
            sized_pool 128 128 g.row.FLLEN g.row.SLLEN count size align len s t r taken are.valid told at32 long idle step;
        budget = λ count bytes size align len told at32 long.
            budget_pool 128 128 g.row.FLLEN g.row.SLLEN count bytes size align len s t r taken are.valid told at32 long step;
        budgets = λ count bytes size align sized. budget_kept well t count bytes size align sized (insert r taken) (λ removal. removal) step;
        blocks = bytes_same_used s t (used-inserted g.row.FLLEN s t r taken step);
      };
      bounds = λ count size align sized. sized_inserted well t count size align sized r taken c.requires.fresh step;
      refused = e.refused;
      frame = assumption (seen, count_inserted well t r taken c.requires.fresh step, SamePlace-costs e.costs, copied_none e.costs, e.costs);
    }
