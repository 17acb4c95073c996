use Rattle.std.proofs.Common.{◌≡◌, ◌+◌, ◌≤◌, ℕ, List, nat_le, sym, subst, length, arith, ◌∙◌, ap}
use Rattle.std.proofs.lemmas.Bool.{leb-true}
use Rattle.std.specs.List.{splice}
use Rattle.rlsf_base.specs.Addr.{at}
use Rattle.rlsf_model.specs.Callers.{bytes_at, written_over}
use Rattle.rlsf_model.specs.Run.{Fills}
use Rattle.rlsf_tlsf.specs.Allocator.{Steps}
use Rattle.rlsf_tlsf.specs.Lending.{written}
use Rattle.rlsf_checked.specs.Answers.{fits, if_in_range}
use Rattle.rlsf_checked.proofs.FieldsOverSteps.{unchanged}
use Rattle.rlsf_checked.proofs.InRange.{at_live}
use Rattle.rlsf_checked.proofs.Unchanged.{frame_unchanged}
use Rattle.rlsf_checked.proofs.checked.CheckedTlsf.write.Given as given
use Rattle.rlsf_checked.proofs.checked.CheckedTlsf.write.Goals as goal
use Rattle.rlsf_checked.proofs.checked.CheckedTlsf.write.Goals.{After-reaches, After-write_at}

-- the bytes are written over those that the payload had
over : (g : given.Over) (c : After-write_at g) → c.write_at.new.payload ≡ written_over c.self.inside.heap.state (at c.args.addr) c.args.offset c.args.bytes.now
over g c = c.write_at.ensures.bytes ∙ ap (λ l. splice l c.args.offset (c.args.offset + length c.args.bytes.now) c.args.bytes.now) c.payload_mut.ensures.value

pub invariant_of-self : goal.invariant_of-self
invariant_of-self g c =
    let w = c.write_at.new.payload in
    let (chunks, place, stands, touches, copied, spare) = c.payload_mut.ensures.rest w in
    unchanged c.self.invariant (written c.self.inside.heap (at c.args.addr) (length c.payload_mut.result.now) w) stands place chunks (c.payload_mut.ensures.aligns w)

-- whether they fit
reach : (g : given.Over) (c : After-reaches g)
    → c.reaches.result ≡ fits c.args.offset (length c.args.bytes.now) (bytes_at c.self.inside.heap.state (at c.args.addr))
reach g c = c.reaches.ensures ∙ ap (λ n. nat_le (c.args.offset + length c.args.bytes.now) n) c.allocation_usable_size.ensures

pub write_at-requires : goal.write_at-requires
write_at-requires g c =
    let told = sym (reach g (goal.at.write_at-requires g c).After-reaches) ∙ c.if-not-reaches.false in
    subst (λ (l : List ℕ). c.args.offset + length c.args.bytes.now ≤ length l) (sym c.payload_mut.ensures.value) (leb-true _ _ told)

pub returns-in_default : goal.returns-in_default
returns-in_default g c =
    let none = rw (← c.self.view_is) at c.in_default.ensures.value in
    let answer = ap (λ o. if_in_range o (fits c.args.offset (length c.args.bytes.now) (bytes_at c.self.inside.heap.state (at c.args.addr)))) none in
    let few : c.self.inside.heap.memory.touches ≤ c.self.inside.heap.memory.touches + 3 = omega arith in
    rw (← c.self.view_is) (assumption (answer, frame_unchanged c.self.inside.heap, few))

pub returns-then-not-reaches : goal.returns-then-not-reaches
returns-then-not-reaches g c =
    let live = rw (← c.self.view_is) at c.in-Some.ensures.value in
    let told = sym c.if-not-reaches.true ∙ reach g (goal.at.returns-then-not-reaches g c).After-reaches in
    let few : c.self.inside.heap.memory.touches ≤ c.self.inside.heap.memory.touches + 3 = omega arith in
    rw (← c.self.view_is) (assumption (at_live live told, frame_unchanged c.self.inside.heap, few))

pub returns : goal.returns
returns g c =
    let live = rw (← c.self.view_is) at c.in-Some.ensures.value in
    let did = c.payload_mut.ensures in
    let heap = c.self.inside.heap in
    let addr = at c.args.addr in
    let w = c.write_at.new.payload in
    let (chunks, place, stands, touches, copied, spare) = did.rest w in
    let is = over g (goal.at.returns g c).After-write_at in
    let grow : heap.memory.touches ≤ (written heap addr (length c.payload_mut.result.now) w).memory.touches = omega (arith, touches) in
    rw (← c.self.view_is) (record {
      step =
          subst (λ b. Steps g.row.FLLEN g.row.SLLEN heap (written heap addr (length c.payload_mut.result.now) w) (Fills heap.state addr b)) is
          (did.meaning w c.write_at.ensures.len);
      result = did.filled w c.write_at.ensures.len ∙ is;
      bounds = did.bounds w;
      blocks = did.blocks w;
      refused = assumption (at_live live (sym c.if-not-reaches.false ∙ reach g (goal.at.returns g c).After-reaches));
      frame = assumption (did.aligns w, did.bytes w, did.count w, did.rest w, grow);
      touches = omega (arith, touches);
    })
