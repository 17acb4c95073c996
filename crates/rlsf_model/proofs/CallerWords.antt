-- The alignment and the bytes of the payload at an address.
use Rattle.std.proofs.Common.{◌≡◌, ◌≢◌, ℕ, eqb, ◌+◌, ◌<◌, ◌≤◌, List, length, Option, Some, None, IsSome, true≢false, refl, sym, ◌∙◌, ap, subst, []}
use Rattle.std.proofs.lemmas.Bool.{eq-eqb, eqb-true}
use Rattle.std.proofs.lemmas.Option.{none-some}
use Rattle.std.specs.Option.{option_map, option_map_or}
use Rattle.rlsf_base.specs.declared.memory.range.Range.{Range}
use Rattle.rlsf_model_sizes.specs.PowerOfTwo.{IsPowerOfTwo}
use Rattle.rlsf_model.specs.Callers.{IsSameMap, Payload, align_at, bytes_at, payload_at}
use Rattle.rlsf_model.specs.Reallocate.{Keeps, Reallocates}
use Rattle.rlsf_model.specs.Allocate.{Allocates}
use Rattle.rlsf_model.specs.Release.{Deallocates}
use Rattle.rlsf_model.specs.Run.{allocate, deallocate, fill, reallocate, Fills, IsSomeLive}
use Rattle.rlsf_model.specs.State.{State, Used, Holds, IsLive}
use Rattle.rlsf_model.specs.WellFormed.{IsWellFormed}
use Rattle.rlsf_model.proofs.Coverage.{by_test}
use Rattle.rlsf_model.proofs.Callers.{callers_see_map, payload_at-has, payload_at-held}

-- a payload with an alignment is live with it
pub align_at-live : (s : State) (addr align : ℕ) → align_at s addr ≡ Some align → IsLive s addr align
unfolding align_at
align_at-live s addr align is = go (payload_at s addr) refl is
  where
    go : (o : Option Payload) → payload_at s addr ≡ o → option_map (λ (p : Payload). p.align) o ≡ Some align → IsLive s addr align
    go None e told = absurd (none-some align told)
    go (Some p) e told =
        let (u, held, same) = payload_at-has s addr p e in
        let as_told : p.align ≡ align = cc in
        (u, held, ap (λ (q : Payload). q.align) same ∙ as_told)

-- where there is an alignment, some payload is live
pub align_at-some : (s : State) (addr : ℕ) → IsSome (align_at s addr) → IsSomeLive s addr
align_at-some s addr is = go (align_at s addr) refl is
  where
    go : (o : Option ℕ) → align_at s addr ≡ o → IsSome o → IsSomeLive s addr
    go None e told = absurd (true≢false (sym told))
    go (Some align) e told = let (u, held, _) = align_at-live s addr align e in (u, held)

module _ {fllen sllen : ℕ} {memory : Range} {s : State} (w : IsWellFormed fllen sllen memory s) where
  pub align_at-held : (addr : ℕ) (u : Used) → Holds s addr u → align_at s addr ≡ Some u.align
  unfolding align_at
  align_at-held addr u held = ap (option_map (λ (p : Payload). p.align)) (payload_at-held w addr u held)

  pub bytes_at-held : (addr : ℕ) (u : Used) → Holds s addr u → bytes_at s addr ≡ u.bytes
  unfolding bytes_at
  bytes_at-held addr u held = ap (λ (o : Option Payload). option_map_or (λ p. p.bytes) o []) (payload_at-held w addr u held)

-- ---- what a change of the map does to both

pub align_at-map : (s t : State) (a b : ℕ) → payload_at t a ≡ payload_at s b → align_at t a ≡ align_at s b
unfolding align_at
align_at-map s t a b e = ap (option_map (λ (p : Payload). p.align)) e

pub bytes_at-map : (s t : State) (a b : ℕ) → payload_at t a ≡ payload_at s b → bytes_at t a ≡ bytes_at s b
unfolding bytes_at
bytes_at-map s t a b e = ap (λ (o : Option Payload). option_map_or (λ p. p.bytes) o []) e

pub align_at-told : (s : State) (a : ℕ) (p : Payload) → payload_at s a ≡ Some p → align_at s a ≡ Some p.align
unfolding align_at
align_at-told s a p e = ap (option_map (λ (q : Payload). q.align)) e

pub bytes_at-told : (s : State) (a : ℕ) (p : Payload) → payload_at s a ≡ Some p → bytes_at s a ≡ p.bytes
unfolding bytes_at
bytes_at-told s a p e = ap (λ (o : Option Payload). option_map_or (λ p. p.bytes) o []) e

pub align_at-none : (s : State) (a : ℕ) → payload_at s a ≡ None → align_at s a ≡ None
unfolding align_at
align_at-none s a e = ap (option_map (λ (q : Payload). q.align)) e

-- ---- what callers see of a step

-- payloads stay as they are
pub record SeesSame (s t : State) : Type 0 where
  pub aligns : align_at t ≡ align_at s
  pub bytes : bytes_at t ≡ bytes_at s

pub same_seen : (s t : State) → IsSameMap (payload_at s) (payload_at t) → SeesSame s t
same_seen s t is = record { aligns = λ i a. align_at-map s t a a (is a) i; bytes = λ i a. bytes_at-map s t a a (is a) i }

-- a payload is at an address where none was, and all others stay as they are
pub record SeesNew (s t : State) (size align addr : ℕ) : Type 0 where
  pub live : align_at t addr ≡ Some align
  pub sized : size ≤ length (bytes_at t addr)
  pub few : length (bytes_at t addr) < size + 32
  pub new : align_at s addr ≡ None
  pub aligns : (a : ℕ) → a ≢ addr → align_at t a ≡ align_at s a
  pub bytes : (a : ℕ) → a ≢ addr → bytes_at t a ≡ bytes_at s a

-- a payload is gone, and all others stay as they are
pub record SeesGone (s t : State) (addr : ℕ) : Type 0 where
  pub gone : align_at t addr ≡ None
  pub aligns : (a : ℕ) → a ≢ addr → align_at t a ≡ align_at s a
  pub bytes : (a : ℕ) → a ≢ addr → bytes_at t a ≡ bytes_at s a

-- a payload has other bytes, as many as it had, and all others stay as they are
pub record SeesFilled (s t : State) (addr : ℕ) (filled : List ℕ) : Type 0 where
  pub here : bytes_at t addr ≡ filled
  pub aligns : (a : ℕ) → align_at t a ≡ align_at s a
  pub bytes : (a : ℕ) → a ≢ addr → bytes_at t a ≡ bytes_at s a
  pub lengths : (a : ℕ) → length (bytes_at t a) ≡ length (bytes_at s a)

-- a payload has another size, at an address where none was or at its own, and all others stay as they are
pub record SeesResized (s t : State) (addr size align to : ℕ) : Type 0 where
  pub live : align_at t to ≡ Some align
  pub sized : size ≤ length (bytes_at t to)
  pub few : length (bytes_at t to) < size + 32
  pub kept : Keeps (bytes_at s addr) (bytes_at t to)
  pub new : to ≢ addr → align_at s to ≡ None
  pub aligns : (a : ℕ) → a ≢ addr → a ≢ to → align_at t a ≡ align_at s a
  pub bytes : (a : ℕ) → a ≢ addr → a ≢ to → bytes_at t a ≡ bytes_at s a

module _ {fllen sllen : ℕ} {memory : Range} {s : State} (w : IsWellFormed fllen sllen memory s) (t : State) where
  pub new_seen : (size align addr : ℕ) → IsPowerOfTwo align → Allocates sllen s size align (Some addr) t → SeesNew s t size align addr
  new_seen size align addr power step =
      let (p, none, serves, is) = callers_see_map fllen sllen memory s t (allocate size align (Some addr)) w power step in
      let here = bytes_at-told t addr p is.here in
      record {
        live = align_at-told t addr p is.here ∙ ap Some serves.aligned;
        sized = subst (λ (l : List ℕ). size ≤ length l) (sym here) serves.enough;
        few = subst (λ (l : List ℕ). length l < size + 32) (sym here) serves.few;
        new = align_at-none s addr none;
        aligns = λ a apart. align_at-map s t a a (is.others a apart);
        bytes = λ a apart. bytes_at-map s t a a (is.others a apart);
      }

  pub gone_seen : (addr : ℕ) → IsSomeLive s addr → Deallocates s addr t → SeesGone s t addr
  gone_seen addr live step =
      let (p, was, is) = callers_see_map fllen sllen memory s t (deallocate addr) w live step in
      record { gone = align_at-none t addr is.here; aligns = λ a apart. align_at-map s t a a (is.others a apart); bytes = λ a apart. bytes_at-map s t a a (is.others a apart) }

  pub filled_seen : (addr : ℕ) (bytes : List ℕ) → Fills s addr bytes t → SeesFilled s t addr bytes
  filled_seen addr bytes step =
      let (p, was, long, is) = callers_see_map fllen sllen memory s t (fill addr bytes) w (step.block, step.holds) step in
      let others : (a : ℕ) → a ≢ addr → bytes_at t a ≡ bytes_at s a = λ a apart. bytes_at-map s t a a (is.others a apart) in
      let filled : bytes_at t addr ≡ bytes = bytes_at-told t addr (record { align = p.align; bytes = bytes }) is.here in
      record {
        here = filled;
        aligns = λ a. by_test (eqb a addr)
            (λ e. let at = eqb-true a addr e in
            ap (align_at t) at ∙ align_at-told t addr (record { align = p.align; bytes = bytes }) is.here ∙ sym (align_at-told s addr p was) ∙ ap (align_at s) (sym at))
            (λ e. align_at-map s t a a (is.others a (λ at. true≢false (sym (eq-eqb a addr at) ∙ e))));
        bytes = others;
        lengths = λ a. by_test (eqb a addr)
            (λ e. let at = eqb-true a addr e in
            ap (λ x. length (bytes_at t x)) at ∙ ap length filled ∙ long ∙ ap length (sym (bytes_at-told s addr p was)) ∙ ap (λ x. length (bytes_at s x)) (sym at))
            (λ e. ap length (others a (λ at. true≢false (sym (eq-eqb a addr at) ∙ e))));
      }

  pub resized_seen : (addr size align to : ℕ) → IsLive s addr align → Reallocates sllen s addr size (Some to) t → SeesResized s t addr size align to
  resized_seen addr size align to (u, held, aligned) step =
      let is = callers_see_map fllen sllen memory s t (reallocate addr size (Some to)) w (u, held) step in
      let here = bytes_at-told t to is.now is.here in
      let there = bytes_at-told s addr is.old is.was in
      let old_align : is.old.align ≡ align = some-align (sym (align_at-told s addr is.old is.was) ∙ align_at-held w addr u held) ∙ aligned in
      record {
        live = align_at-told t to is.now is.here ∙ ap Some (is.serves.aligned ∙ old_align);
        sized = subst (λ (l : List ℕ). size ≤ length l) (sym here) is.serves.enough;
        few = subst (λ (l : List ℕ). length l < size + 32) (sym here) is.serves.few;
        kept = subst (λ (l : List ℕ). Keeps l (bytes_at t to)) (sym there) (subst (λ (l : List ℕ). Keeps is.old.bytes l) (sym here) is.kept);
        new = λ apart. align_at-none s to (is.new apart);
        aligns = λ a off off_to. align_at-map s t a a (is.others a off off_to);
        bytes = λ a off off_to. bytes_at-map s t a a (is.others a off off_to);
      }
    where
      some-align : {m n : ℕ} → Some m ≡ Some n → m ≡ n
      some-align e = cc
