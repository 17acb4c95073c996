-- The first bytes of a payload are copied over those of another, or over themselves: the allocator represents the state
-- with these bytes there.
use Rattle.std.proofs.Common.{◌≡◌, ℕ, ◌+◌, ◌-◌, ◌≤◌, List, ◌++◌, length, take, drop, arith, inl, inr, refl, sym, ◌∙◌, ap, subst}
use Rattle.std.proofs.Math.Seq.{take-append-add}
use Rattle.std.proofs.lemmas.List.{drop-drop, drop-take, drop_at, length-take-le, take-take}
use Rattle.std.specs.List.{splice}
use Rattle.rlsf_base.specs.Range.{LiesIn, range_at}
use Rattle.rlsf_base.specs.Space.{Space, bytes_in, with_bytes}
use Rattle.rlsf_base.proofs.Lending.Present.{out-same}
use Rattle.rlsf_base.proofs.Lending.Replaced.{bytes_in-with, length-with}
use Rattle.rlsf_model.specs.Run.{Fills}
use Rattle.rlsf_model.specs.State.{State, Used, usable, Holds}
use Rattle.rlsf_blocks.specs.Spare.{KeepsSpare}
use Rattle.rlsf_blocks.specs.StandsFor.{Contents, StandsFor}
use Rattle.rlsf_blocks.proofs.Payloads.Filled.{IsSameOutside, stands_filled}
use Rattle.rlsf_blocks.proofs.Payloads.UnknownAlignment.{IsPayloadOf-holds, LiesIn-usable}

-- n elements of a list, the first k of which were replaced: what was put there, and behind it what was there
front-splice : (xs ys : List ℕ) (i k n : ℕ) → i + n ≤ length xs → length ys ≡ k → k ≤ n
    → take n (drop i (splice xs i (i + k) ys)) ≡ ys ++ drop k (take n (drop i xs))
front-splice xs ys i k n room full within =
    let front : length (take i xs) ≡ i = length-take-le i xs (omega arith) in
    let rest = drop (i + k) xs in
    let parts : n ≡ length ys + (n - k) = omega arith in
    let behind : drop k (take n (drop i xs)) ≡ take (n - k) rest =
    ap (λ e. drop k (take e (drop i xs))) (omega arith) ∙ drop-take k (n - k) (drop i xs) ∙ ap (take (n - k)) (drop-drop k i xs) in
    ap (take n) (drop_at (take i xs) (ys ++ rest) i front) ∙ ap (λ e. take e (ys ++ rest)) parts ∙ take-append-add ys rest (n - k) ∙ ap (λ zs. ys ++ zs) (sym behind)

module _ {fllen sllen : ℕ} {v : Contents} {s : State} (old : StandsFor fllen sllen v s) (len : ℕ) where
  -- the first bytes of a payload lie in the memory
  pub LiesIn-front : (addr : ℕ) (u : Used) → Holds s addr u → len ≤ (usable u).len → LiesIn (range_at addr len) v.memory.start (length v.memory.bytes)
  LiesIn-front addr u holds enough = let lies = LiesIn-usable (IsPayloadOf-holds u refl old holds) in (omega (arith, lies.0, holds.1), omega (arith, lies.1, holds.1, enough))

  module _ (from to : ℕ) (u w : Used) (source : Holds s from u) (target : Holds s to w) (enough : len ≤ (usable u).len) (room : len ≤ (usable w).len)
      (n : Space) (start : n.start ≡ v.memory.start) (copied : n.bytes ≡ with_bytes v.memory to (bytes_in v.memory (range_at from len))) (out : n.out ≡ v.memory.out) where
    abbrev m : Space
    m = v.memory

    abbrev front : List ℕ
    front = take len u.bytes

    full : length front ≡ len
    full = length-take-le len u.bytes (omega (arith, (old.well_formed.used u source.0).bytes, enough))

    bytes_in-front : bytes_in m (range_at from len) ≡ front
    bytes_in-front = grind (arith, take-take)

    spliced : n.bytes ≡ splice m.bytes (to - m.start) (to - m.start + len) front
    spliced = copied ∙ ap (with_bytes m to) bytes_in-front ∙ ap (λ k. splice m.bytes (to - m.start) (to - m.start + k) front) full

    placed : LiesIn (range_at to len) m.start (length m.bytes)
    placed = LiesIn-front to w target room

    IsSameOutside-front : IsSameOutside m n (usable w)
    IsSameOutside-front = record {
      start = start;
      out = λ a inside side. out-same m n a start out;
      length = length-with m n (range_at to len) front placed full start spliced;
      bytes = λ q inside side. bytes_in-with m n (range_at to len) front placed full start spliced q inside (elim side [
        | inl before ↦ inl (omega (arith, before, target.1))
        | inr behind ↦ inr (omega (arith, behind, target.1, room))
      ]);
    }

    bytes_in-filled : bytes_in n (usable w) ≡ (take len u.bytes ++ drop len w.bytes)
    bytes_in-filled =
        let most = (usable w).len in
        let lies = LiesIn-usable (IsPayloadOf-holds w refl old target) in
        (λ i. take most (drop (target.1 i - start i) (spliced i))) ∙ front-splice m.bytes front (to - m.start) len most (omega (arith, lies, target.1)) full room
        ∙ ap (λ a. front ++ drop len (take most (drop (a - m.start) m.bytes))) (sym target.1) ∙ ap (λ bs. front ++ drop len bs) (old.payloads.bytes w target.0)

    pub stands_copied : (t : State) × Fills s to (take len u.bytes ++ drop len w.bytes) t × StandsFor fllen sllen (record v { memory = n }) t × KeepsSpare m s n t
    stands_copied =
        subst (λ bs. (t : State) × Fills s to bs t × StandsFor fllen sllen (record v { memory = n }) t × KeepsSpare m s n t) bytes_in-filled
        (stands_filled old to w target n IsSameOutside-front)
