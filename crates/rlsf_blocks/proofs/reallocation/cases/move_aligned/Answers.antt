use Rattle.std.proofs.Common.{◌≡◌, ◌∙◌, ℕ, Some, IfNone, arith, subst, sym}
use Rattle.rlsf_base.specs.Addr.{reply_of}
use Rattle.rlsf_blocks.proofs.Reallocate.Addresses.{address_some, some_reply}
use Rattle.rlsf_blocks.proofs.Deallocate.Addresses.{narrow_start}
use Rattle.rlsf_blocks.specs.Steps.Resize.{IsHereStill, StepsToReallocated, IsUsedAt}
use Rattle.rlsf_model.specs.Reallocate.{plan}
use Rattle.rlsf_model.specs.State.{State, Used}
use Rattle.rlsf_blocks.proofs.reallocation.cases.move_aligned.Goals as goal

-- the payload's address is the one that was computed
there : {s : State} {u : Used} {block payload addr align : ℕ} → addr ≡ payload → IsUsedAt s u block payload align → IsUsedAt s u block addr align
there same is = record { is_used = is.is_used; start = is.start; caller = is.caller ∙ sym same; alignment = is.alignment }

pub payload_in-payload-requires : goal.payload_in-payload-requires
payload_in-payload-requires g c = grind (arith, narrow_start, c.requires.used, c.requires.narrow)

pub moved-requires : goal.moved-requires
moved-requires g c =
    let (s, u, v, is, first, here) = rw (← c.layout_in-layout.ensures) at c.requires.used in
    (omega arith, (c.requires.parameters, ((s, u, v, there c.payload_in-payload.ensures is, first, here), c.requires.whole)))

pub returns-in-Some : goal.returns-in-Some
returns-in-Some g c =
    let e = c.in-Some.ensures in
    let m = c.args.memory.now in
    let n = c.moved.new.memory in
    let to = c.in-Some.to in
    let size = c.layout_in-layout.result.size in
    let (s, u, v, is, first, here) = rw (← c.layout_in-layout.ensures) at c.requires.used in
    let (t, by, stands, spare) = e.step s u v (there c.payload_in-payload.ensures is) first here in
    let at = c.payload_in-payload.ensures in
    let same : Some to ≡ reply_of to = some_reply to (address_some g.row.SLLEN s t u size to (plan s u size) stands.well_formed.used by) in
    rw (← c.layout_in-layout.ensures) (record {
      step = λ s u v is first here.
          subst (λ o. StepsToReallocated g.row.FLLEN g.row.SLLEN m n c.moved.new.table s u size o) same (e.step s u v (there at is) first here);
      refused = subst (λ o. IfNone o (n.bytes ≡ m.bytes)) same tt;
      costs = e.costs;
      copied = λ s u v is. e.copied s u v (there at is);
      own = e.own;
      here = e.here;
      kept_here = λ s u v is first. subst (λ o. IsHereStill m n u o) same (e.kept_here s u v (there at is) first);
    })

pub returns-in-None : goal.returns-in-None
returns-in-None g c =
    let e = c.in-None.ensures in
    rw (← c.layout_in-layout.ensures) (record {
      step = λ s u v is first here. e.step s u v (there c.payload_in-payload.ensures is) first here;
      refused = e.refused;
      costs = e.costs;
      copied = λ s u v is. e.copied s u v (there c.payload_in-payload.ensures is);
      own = e.own;
      here = e.here;
      kept_here = λ s u v is first here. tt;
    })
