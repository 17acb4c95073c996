use Rattle.std.proofs.Common.{◌≡◌, ◌≤◌, ◌+◌, ℕ, List, length, replicate, arith, ◌∙◌, ap, subst}
use Rattle.std.proofs.lemmas.List.{length-replicate}
use Rattle.rlsf_base.specs.Addr.{at}
use Rattle.rlsf_model.specs.Callers.{bytes_at}
use Rattle.rlsf_model.specs.Run.{Fills}
use Rattle.rlsf_tlsf.specs.Allocator.{Steps}
use Rattle.rlsf_tlsf.specs.Lending.{written}
use Rattle.rlsf_checked.specs.Answers.{if_live}
use Rattle.rlsf_checked.proofs.FieldsOverSteps.{unchanged}
use Rattle.rlsf_checked.proofs.Unchanged.{frame_unchanged}
use Rattle.rlsf_checked.proofs.checked.CheckedTlsf.fill.Given as given
use Rattle.rlsf_checked.proofs.checked.CheckedTlsf.fill.Goals as goal
use Rattle.rlsf_checked.proofs.checked.CheckedTlsf.fill.Goals.{After-fill_all}

-- all bytes that the payload had have the value
over : (g : given.Over) (c : After-fill_all g) → c.fill_all.new.bytes ≡ replicate (length (bytes_at c.self.inside.heap.state (at c.args.addr))) c.args.value
over g c = c.fill_all.ensures ∙ ap (λ (l : List ℕ). replicate (length l) c.args.value) c.payload_mut.ensures.value

long : (g : given.Over) (c : After-fill_all g) → length c.fill_all.new.bytes ≡ length c.payload_mut.result.now
long g c = ap (λ (l : List ℕ). length l) c.fill_all.ensures ∙ length-replicate (length c.payload_mut.result.now) c.args.value

pub invariant_of-self : goal.invariant_of-self
invariant_of-self g c =
    let w = c.fill_all.new.bytes in
    let (chunks, place, stands, touches, copied, spare) = c.payload_mut.ensures.rest w in
    unchanged c.self.invariant (written c.self.inside.heap (at c.args.addr) (length c.payload_mut.result.now) w) stands place chunks (c.payload_mut.ensures.aligns w)

pub returns-in_default : goal.returns-in_default
returns-in_default g c =
    let none = rw (← c.self.view_is) at c.in_default.ensures.value in
    let few : c.self.inside.heap.memory.touches ≤ c.self.inside.heap.memory.touches + 3 = omega arith in
    rw (← c.self.view_is) (assumption (ap (λ o. if_live o (tt {0})) none, frame_unchanged c.self.inside.heap, few))

pub returns : goal.returns
returns g c =
    let live = rw (← c.self.view_is) at c.in-Some.ensures.value in
    let did = c.payload_mut.ensures in
    let heap = c.self.inside.heap in
    let addr = at c.args.addr in
    let k = (goal.at.returns g c).After-fill_all in
    let w = c.fill_all.new.bytes in
    let (chunks, place, stands, touches, copied, spare) = did.rest w in
    let grow : heap.memory.touches ≤ (written heap addr (length c.payload_mut.result.now) w).memory.touches = omega (arith, touches) in
    rw (← c.self.view_is) (record {
      step =
          subst (λ b. Steps g.row.FLLEN g.row.SLLEN heap (written heap addr (length c.payload_mut.result.now) w) (Fills heap.state addr b)) (over g k)
          (did.meaning w (long g k));
      result = did.filled w (long g k) ∙ over g k;
      bounds = did.bounds w;
      blocks = did.blocks w;
      refused = assumption (ap (λ o. if_live o (tt {0})) live);
      frame = assumption (did.aligns w, did.bytes w, did.count w, did.rest w, grow);
      touches = omega (arith, touches);
    })
