use Rattle.std.proofs.Common.{◌≡◌, arith, rules, refl, sym, ◌∙◌}
use Rattle.rlsf_model.specs.Release.{Deallocates, released}
use Rattle.rlsf_model.specs.Sized.{IsSizedFor}
use Rattle.rlsf_model.specs.State.{State}
use Rattle.rlsf_model.proofs.CallerWords.{gone_seen}
use Rattle.rlsf_model.proofs.SizedWords.{count_gone, sized_gone}
use Rattle.rlsf_blocks.specs.Laws.{read_from}
use Rattle.rlsf_tlsf.specs.Results.{IsDeallocated}
use Rattle.rlsf_tlsf.specs.Steps.Moves.{bare, deallocated}
use Rattle.rlsf_tlsf.proofs.LiveBytes.{bytes_less}
use Rattle.rlsf_tlsf.proofs.Moved.{deallocated-bare}
use Rattle.rlsf_tlsf.proofs.Reached.{LeavesCore-arrived, bare-core, reads}
use Rattle.rlsf_tlsf.proofs.core_calls.deallocate_block_in.Goals as goal

pub deallocate_block-requires : goal.deallocate_block-requires
deallocate_block-requires g c =
    let (u, holds, start, own) = c.requires.own in
    (omega arith, (c.requires.core.valid, ((read_from c.args.memory.now c.args.state.now.state, u, c.requires.core.stands, holds.0, start, own), search rules)))

pub returns : goal.returns
returns g c =
    let n = c.deallocate_block.new.memory in
    let s = read_from c.args.memory.now c.args.state.now.state in
    let addr = c.args.addr in
    let are = c.requires.core in
    let (u, holds, start, own) = c.requires.own in
    let e = c.deallocate_block.ensures in
    let (stands, spare) = e.step s u are.stands holds.0 start own in
    let t = released s u in
    let did : Deallocates s addr t = record { block = u; holds = holds; after = refl } in
    let k = c.deallocate.new.self.state in
    let kept : k ≡ bare t = c.deallocate.ensures ∙ (λ i. deallocated addr (sym (bare-core are) i)) ∙ deallocated-bare are.stands.well_formed t addr did in
    let well = are.stands.well_formed in
    let seen = gone_seen well t addr (u, holds) did in
    record {
      left = LeavesCore-arrived stands k kept are.valid spare e.costs e.own e.here;
      step = reads stands k kept (Deallocates s addr) did;
      result = reads stands k kept (λ (x : State). IsDeallocated s x addr)
          (record { gone = seen.gone; aligns = seen.aligns; bytes = seen.bytes; count = count_gone well t addr (u, holds) did; freed = bytes_less well t addr did });
      bounds = λ count most widest sized. reads stands k kept (IsSizedFor g.row.SLLEN count most widest) (sized_gone well t count most widest sized addr (u, holds) did);
    }
