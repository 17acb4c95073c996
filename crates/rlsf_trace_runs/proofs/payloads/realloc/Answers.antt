use Rattle.std.proofs.Common.{Some, None, refl, ap, sym, ◌∙◌, subst, rules, true≢false}
use Rattle.std.specs.Int.NonZero.{non_zero_usize_get}
use Rattle.rlsf_base.specs.Layout.{IsLayout}
use Rattle.rlsf_model.specs.Reallocate.{Reallocates}
use Rattle.rlsf_model.proofs.Chunks.{chunks-reallocated}
use Rattle.rlsf_tlsf.proofs.Standing.{stepped}
use Rattle.rlsf_trace_runs.specs.Names.{address}
use Rattle.rlsf_trace_runs.proofs.Named.{AreNamed-reallocated, owned_live, unnamed}
use Rattle.rlsf_trace_runs.proofs.NamedPayloads.{IsAt-named, IsAt-unmoved, reallocation_refused, LeadsOn-nothing, room_left}
use Rattle.rlsf_trace_text.specs.declared.op.Answer.TheVariants.{Refused}
use Rattle.rlsf_trace_text.specs.declared.op.Op.TheVariants.{Realloc}
use Rattle.rlsf_trace_text.specs.declared.op.TraceError.TheVariants.{BadLayout, UnknownName}
use Rattle.rlsf_trace_runs.proofs.payloads.realloc.Goals as goal

pub returns-in-Some-placed : goal.returns-in-Some-placed
returns-in-Some-placed g c = record {
  does = λ s at.
      let p = c.in-Some.old in
      let there = sym c.payload_of.ensures.value ∙ c.in-Some.is in
      let live = at.named.live c.args.name p there in
      let to = non_zero_usize_get c.in-Some-placed.addr in
      let (size, _) = c.in-Ok.ensures.layout in
      let (t, moved, stands, keeps) =
      stepped at.stands c.reallocate-placed.new.self (λ x. Reallocates g.row.SLLEN x (address p) c.in-Ok.layout.size (Some to)) c.in-Some-placed.ensures.step in
      let step = subst (λ n. Reallocates g.row.SLLEN s.machine (address p) n (Some to) t) size moved in
      let (u, owns, holds, its) = owned_live at.named c.args.name p there in
      let valid = subst (IsLayout c.args.size) (sym its) (c.in-Ok.ensures.succeeds.0 refl) in
      let named =
      AreNamed-reallocated at.named g.row.FLLEN g.row.SLLEN _ t c.args.name c.args.size (address p) to _ at.stands.stands.well_formed (owns.1 ∙ ap Some holds.1) live step
      refl c.add_name.ensures.names in (
        _,
        (u, owns, valid, t, subst (λ a. Reallocates g.row.SLLEN s.machine a c.args.size (Some to) t) (sym holds.1) step, refl),
        IsAt-named at c.in-Some-placed.ensures.frame.place t stands (chunks-reallocated g.row.SLLEN s.machine t (address p) c.args.size (Some to) step)
            c.add_name.ensures.pools
            named,
        keeps,
      );
  room = search rules;
  place = search rules;
}

pub returns-in_default : goal.returns-in_default
returns-in_default g c = record {
  does = λ s at.
      LeadsOn-nothing at (Realloc c.args.name c.args.size) (Refused UnknownName) (unnamed at.named c.args.name (sym c.payload_of.ensures.value ∙ c.in_default.is), refl);
  room = room_left c.args.tables.now;
  place = search rules;
}

pub returns-in_default-placed : goal.returns-in_default-placed
returns-in_default-placed g c = record {
  does = λ s at.
      let p = c.in-Some.old in
      let (size, _) = c.in-Ok.ensures.layout in
      let (t, moved, stands, keeps) =
      stepped at.stands c.reallocate-placed.new.self (λ x. Reallocates g.row.SLLEN x (address p) c.in-Ok.layout.size None)
      (rw c.in_default-placed.is at c.reallocate-placed.ensures.step) in
      let step = subst (λ n. Reallocates g.row.SLLEN s.machine (address p) n None t) size moved in
      let (u, owns, holds, its) = owned_live at.named c.args.name p (sym c.payload_of.ensures.value ∙ c.in-Some.is) in
      let valid = subst (IsLayout c.args.size) (sym its) (c.in-Ok.ensures.succeeds.0 refl) in
      rw c.in_default-placed.is (
        _,
        (u, owns, valid, t, subst (λ a. Reallocates g.row.SLLEN s.machine a c.args.size None t) (sym holds.1) step, refl),
        IsAt-unmoved at c.reallocate-placed.ensures.frame.place t stands (reallocation_refused g.row.SLLEN s.machine t (address p) c.args.size step),
        keeps,
      );
  room = room_left c.args.tables.now;
  place = search rules;
}

pub returns-in_default-from_size_align : goal.returns-in_default-from_size_align
returns-in_default-from_size_align g c = record {
  does = λ s at.
      let p = c.in-Some.old in
      let (u, owns, holds, its) = owned_live at.named c.args.name p (sym c.payload_of.ensures.value ∙ c.in-Some.is) in
      LeadsOn-nothing at (Realloc c.args.name c.args.size) (Refused BadLayout)
      ((u, owns, λ valid. true≢false (sym (c.in_default-from_size_align.ensures.succeeds.1 (subst (IsLayout c.args.size) its valid)))), refl);
  room = room_left c.args.tables.now;
  place = search rules;
}
