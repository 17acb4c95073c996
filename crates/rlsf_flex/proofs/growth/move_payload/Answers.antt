use Rattle.std.specs.Prelude.{take, drop, ◌++◌}
use Rattle.std.proofs.Common.{◌≡◌, ◌≢◌, ◌≤◌, ◌<◌, ◌+◌, ℕ, None, Some, arith, length, refl, sym, ◌∙◌, ap, subst}
use Rattle.std.proofs.lemmas.Option.{none-some}
use Rattle.rlsf_base.specs.Addr.{at}
use Rattle.rlsf_model.specs.Callers.{align_at, bytes_at}
use Rattle.rlsf_model.specs.Reallocate.{Keeps}
use Rattle.rlsf_model.specs.Run.{Fills}
use Rattle.rlsf_model.specs.Sized.{live_count}
use Rattle.rlsf_model.specs.State.{State}
use Rattle.rlsf_model.proofs.CallerWords.{align_at-live, bytes_at-held}
use Rattle.rlsf_tlsf.specs.Allocator.{IsInState}
use Rattle.rlsf_tlsf.proofs.Standing.{in_state}
use Rattle.rlsf_flex.specs.Steps.Growth.{MovesPayload}
use Rattle.rlsf_flex.proofs.Moves.{new, Fills-copied, Holds-new, Holds-old, Keeps-front, KeepsSpare-copied, MovesAway-copied, length-front}
use Rattle.rlsf_flex.proofs.Places.{SamePlace-then}
use Rattle.rlsf_flex.proofs.InnerAllocator.{opened, stood_at}
use Rattle.rlsf_flex.proofs.growth.move_payload.Given as given
use Rattle.rlsf_flex.proofs.growth.move_payload.Goals as goal
use Rattle.rlsf_flex.proofs.growth.move_payload.Goals.{After-deallocate, In_ok-to}

pub returns-in_err-to : goal.returns-in_err-to
returns-in_err-to g c =
    let is = c.allocate.ensures in
    let (step, stands, spare) = opened _ _ _ c.in_err-to.ensures.step in
    rw c.from_residual.ensures (record {
      refused = (step.0, refl);
      step = tt;
      result = tt;
      count = ap live_count c.in_err-to.ensures.refused.same;
      bounds = is.bounds;
      place = is.frame.place;
      grow = is.frame.grow;
      grow_copied = omega (arith, is.frame.copied);
    })

-- an address where a payload is is none where there is none
apart : (s : State) (a b align : ℕ) → align_at s a ≡ Some align → align_at s b ≡ None → a ≢ b
apart s a b align live none same = none-some align (sym none ∙ ap (align_at s) (sym same) ∙ live)

off : (g : given.Over) (c : In_ok-to g) → at c.args.addr ≢ at c.in_ok-to.to
off g c = apart c.args.tlsf.now.state (at c.args.addr) (at c.in_ok-to.to) c.args.layout.align c.requires.live c.in_ok-to.ensures.result.new

off_from : (g : given.Over) (c : In_ok-to g) → at c.in_ok-to.to ≢ at c.args.addr
off_from g c same = off g c (sym same)

stays : (g : given.Over) (c : In_ok-to g) → bytes_at c.allocate.new.self.state (at c.args.addr) ≡ bytes_at c.args.tlsf.now.state (at c.args.addr)
stays g c = c.in_ok-to.ensures.result.bytes (at c.args.addr) (off g c)

-- the new payload's bytes are the old one's, and then its own
moved : (g : given.Over) (c : After-deallocate g)
    → (bytes_at c.deallocate.new.self.state (at c.in_ok-to.to)
    ≡ (take c.allocation_usable_size-len.result (bytes_at c.args.tlsf.now.state (at c.args.addr))
    ++ drop c.allocation_usable_size-len.result (bytes_at c.allocate.new.self.state (at c.in_ok-to.to))))
    × (length (bytes_at c.args.tlsf.now.state (at c.args.addr)) ≡ c.allocation_usable_size-len.result)
    × (c.allocation_usable_size-len.result ≤ length (bytes_at c.allocate.new.self.state (at c.in_ok-to.to)))
moved g c =
    let here = (goal.at.returns g c).In_ok-to in
    let len = c.allocation_usable_size-len.ensures in
    let old = stays g here in (
      c.deallocate.ensures.result.bytes _ (off_from g here) ∙ c.copy_payload.ensures.result.filled
          ∙ ap (λ l. (take c.allocation_usable_size-len.result l ++ drop c.allocation_usable_size-len.result (bytes_at c.allocate.new.self.state (at c.in_ok-to.to)))) old,
      sym (ap length old) ∙ sym len,
      omega (arith, len, ap length old, c.requires.short, c.in_ok-to.ensures.result.sized),
    )

-- and as many as were allocated
moved_length : (g : given.Over) (c : After-deallocate g)
    → length (bytes_at c.deallocate.new.self.state (at c.in_ok-to.to)) ≡ length (bytes_at c.allocate.new.self.state (at c.in_ok-to.to))
moved_length g c =
    let (is, len, short) = moved g c in
    ap length is ∙ length-front c.allocation_usable_size-len.result (bytes_at c.args.tlsf.now.state (at c.args.addr)) (bytes_at c.allocate.new.self.state (at c.in_ok-to.to)) len
    short

-- which is the reference model's move
moves : (g : given.Over) (c : After-deallocate g)
    → MovesPayload g.row.FLLEN g.row.SLLEN c.args.tlsf.now c.deallocate.new.self (at c.args.addr) c.args.layout.size (at c.in_ok-to.to)
moves g c =
    let addr = at c.args.addr in
    let to = at c.in_ok-to.to in
    let size = c.args.layout.size in
    let align = c.args.layout.align in
    let s = c.args.tlsf.now.state in
    let v = in_state g.row.FLLEN g.row.SLLEN c.args.tlsf.now c.requires.stands in
    let (u, holds, is) = align_at-live s addr align c.requires.live in
    let bytes = bytes_at-held v.stands.well_formed addr u holds in
    let short = subst (λ n. n ≤ size) (ap length bytes ∙ (v.stands.well_formed.used u holds.0).bytes) c.requires.short in
    let (step, stands, spare) = opened _ _ _ c.in_ok-to.ensures.step in
    let (fills, stands_copied, spare_copied) = opened _ _ _ c.copy_payload.ensures.step in
    let (gone, last, spare_last) = opened _ _ _ c.deallocate.ensures.step in
    let now : IsInState g.row.FLLEN g.row.SLLEN c.allocate.new.self c.allocate.new.self.state =
    record { state = refl; stands = stands } in
    let old = Holds-old v addr u holds size align to is short step now in
    let there = Holds-new v addr u holds size align to is short step now in
    let t = c.allocate.new.self.state in
    let r = c.copy_payload.new.self.state in
    let len = c.allocation_usable_size-len.ensures ∙ ap length (bytes_at-held stands.well_formed addr u old) ∙ (stands.well_formed.used u old.0).bytes in
    let filled = subst (λ n. Fills t to (take n u.bytes ++ drop n step.bytes) r) len
    (Fills-copied stands.well_formed addr to c.allocation_usable_size-len.result u (new v addr u holds size align to is short step now) old there fills) in
    record {
      block = u;
      holds = holds;
      moves = MovesAway-copied v addr u holds size align to is short step now c.copy_payload.new.self c.deallocate.new.self r c.deallocate.new.self.state filled gone;
      stands = stood_at _ last;
      spare =
          KeepsSpare-copied v addr u holds size align to is short step now c.copy_payload.new.self c.deallocate.new.self r c.deallocate.new.self.state filled gone
          c.in_ok-to.ensures.frame.place c.copy_payload.ensures.frame.place spare spare_copied spare_last;
    }

pub returns : goal.returns
returns g c =
    let here = (goal.at.returns g c).In_ok-to in
    let one = c.in_ok-to.ensures in
    let two = c.copy_payload.ensures in
    let three = c.deallocate.ensures in
    let (is, len, short) = moved g c in
    let old = bytes_at c.args.tlsf.now.state (at c.args.addr) in
    record {
      refused = tt;
      step = moves g c;
      result = record {
        live = three.result.aligns _ (off_from g here) ∙ ap (λ aligns. aligns (at c.in_ok-to.to)) two.result.aligns ∙ one.result.live;
        sized = subst (λ n. c.args.layout.size ≤ n) (sym (moved_length g c)) one.result.sized;
        few = subst (λ n. n < c.args.layout.size + 32) (sym (moved_length g c)) one.result.few;
        kept = subst (Keeps old) (sym is) (Keeps-front c.allocation_usable_size-len.result old (bytes_at c.allocate.new.self.state (at c.in_ok-to.to)) len short);
        new = λ off. one.result.new;
        aligns = λ a from to. three.result.aligns a from ∙ ap (λ aligns. aligns a) two.result.aligns ∙ one.result.aligns a to;
        bytes = λ a from to. three.result.bytes a from ∙ two.result.bytes a to ∙ one.result.bytes a to;
      };
      count = omega (arith, one.result.count, two.result.count, three.result.count);
      bounds = λ count size align sized short fits. three.bounds count size align (two.bounds count size align (one.bounds count size align sized short fits));
      place =
          SamePlace-then c.args.tlsf.now.memory c.copy_payload.new.self.memory c.deallocate.new.self.memory
          (SamePlace-then c.args.tlsf.now.memory c.allocate.new.self.memory c.copy_payload.new.self.memory one.frame.place two.frame.place) three.frame.place;
      grow = omega (arith, one.frame.grow, two.touches, three.frame.grow);
      grow_copied = omega (arith, one.frame.copied, two.frame.copied, three.frame.copied);
    }
