use Rattle.std.proofs.Common.{rules, Some, None, IsSome, refl, sym, ◌∙◌, subst}
use Rattle.std.specs.Int.NonZero.{non_zero_usize_get}
use Rattle.rlsf_model.specs.Allocate.{Allocates}
use Rattle.rlsf_model.proofs.Chunks.{chunks-allocated}
use Rattle.rlsf_trace_text.specs.declared.op.Answer.TheVariants.{Refused}
use Rattle.rlsf_trace_text.specs.declared.op.Op.TheVariants.{Alloc}
use Rattle.rlsf_trace_text.specs.declared.op.TraceError.TheVariants.{NameTaken}
use Rattle.rlsf_tlsf.proofs.Standing.{stepped}
use Rattle.rlsf_trace_runs.specs.Names.{address}
use Rattle.rlsf_trace_runs.proofs.Named.{AreNamed-allocated, unnamed}
use Rattle.rlsf_trace_runs.proofs.NamedPayloads.{IsAt-named, IsAt-unmoved, LeadsOn-nothing, none_is, room_left, some_is}
use Rattle.rlsf_trace_runs.proofs.runs.alloc.Goals as goal

pub returns-in-Some : goal.returns-in-Some
returns-in-Some g c = record {
  does = λ s at.
      let layout = c.args.layout in
      let addr = non_zero_usize_get c.in-Some.addr in
      let (t, step, stands, keeps) = stepped at.stands c.allocate-placed.new.self (λ x. Allocates g.row.SLLEN x layout.size layout.align (Some addr)) c.in-Some.ensures.step in
      let free = unnamed at.named c.args.name (none_is _ (sym c.contains_key.ensures ∙ c.if-contains_key.false)) in
      let named =
      AreNamed-allocated at.named g.row.FLLEN g.row.SLLEN _ t c.args.name layout.size layout.align addr _ stands.stands.well_formed step refl c.align.ensures.value
      c.add_name.ensures.names in (
        _,
        (free, t, step, refl),
        IsAt-named at c.in-Some.ensures.frame.place t stands (chunks-allocated g.row.SLLEN s.machine t layout.size layout.align (Some addr) step) c.add_name.ensures.pools
            named,
        keeps,
      );
  room = search rules;
  place = search rules;
}

pub returns-in_default : goal.returns-in_default
returns-in_default g c = record {
  does = λ s at.
      let layout = c.args.layout in
      let (t, step, stands, keeps) =
      stepped at.stands c.allocate-placed.new.self (λ x. Allocates g.row.SLLEN x layout.size layout.align None) (rw c.in_default.is at c.allocate-placed.ensures.step) in
      let free = unnamed at.named c.args.name (none_is _ (sym c.contains_key.ensures ∙ c.if-contains_key.false)) in
      rw c.in_default.is (_, (free, t, step, refl), IsAt-unmoved at c.allocate-placed.ensures.frame.place t stands step.1, keeps);
  room = room_left c.args.tables.now;
  place = search rules;
}

pub returns-then-contains_key : goal.returns-then-contains_key
returns-then-contains_key g c = record {
  does = λ s at.
      let taken = some_is address _ (sym c.contains_key.ensures ∙ c.if-contains_key.true) in
      LeadsOn-nothing at (Alloc c.args.name c.args.layout) (Refused NameTaken) (subst IsSome (at.named.names c.args.name) taken, refl);
  room = room_left c.args.tables.now;
  place = search rules;
}
