use Rattle.std.proofs.Common.{◌≡◌, ◌≤◌, ◌∷◌, ◌++◌, ℕ, List, length, take, IsSome, lit<, arith, refl, sym, ◌∙◌, ap, subst}
use Rattle.std.proofs.Math.Path.{ap₂}
use Rattle.std.proofs.lemmas.List.{length-take-le}
use Rattle.std.specs.Int.NonZero.{non_zero_usize_get}
use Rattle.rlsf_base.specs.Range.{range_at}
use Rattle.rlsf_base.specs.Space.{bytes_in}
use Rattle.rlsf_example_libraries.specs.Stored.{KeepsAt, Place, StoreContents, bytes_at_place}
use Rattle.rlsf_example_libraries.proofs.Fronts.{front-le}
use Rattle.rlsf_example_libraries.proofs.Places.{among, here_bytes}
use Rattle.rlsf_example_libraries.proofs.Stores.{front_stored, live_stored}
use Rattle.rlsf_example_libraries.proofs.store.Store.read.Goals as goal

-- some bytes are kept there
abbrev HasHere : StoreContents → ℕ → ℕ → Type 0
HasHere v addr len = (before after : List Place) × (p : Place) × KeepsAt v (before ++ p ∷ after) × (p.addr ≡ addr) × (p.len ≡ len)

pub payload-requires : goal.payload-requires
payload-requires c =
    let (before, after, p, has, at, long) = subst (λ (now : StoreContents). HasHere now (non_zero_usize_get c.args.addr) c.args.len) (sym c.self.view_is) c.requires in
    let a = among before after p has in
    (lit< tt, subst IsSome (sym (live_stored a.front a.back a.here (ap (λ q. q.addr) a.here_at ∙ at) a.is)) refl)

-- the payload begins with the bytes that are kept there
front : (c : goal.After-payload) → (c.args.len ≤ length c.payload.result.now)
    × (take c.args.len c.payload.result.now ≡ bytes_in c.self.inside.heap.memory (range_at (non_zero_usize_get c.args.addr) c.args.len))
front c =
    let (before, after, p, has, at, long) = subst (λ (now : StoreContents). HasHere now (non_zero_usize_get c.args.addr) c.args.len) (sym c.self.view_is) c.requires in
    let a = among before after p has in
    let begins = front_stored a.front a.back a.here (ap (λ q. q.addr) a.here_at ∙ at) a.is in
    let lent = c.payload.result.now in
    let front : take (length a.here.bytes) lent ≡ a.here.bytes = ap (take (length a.here.bytes)) c.payload.ensures ∙ begins in
    let is : length a.here.bytes ≡ c.args.len = ap (λ q. q.len) a.here_at ∙ long in
    let there : bytes_at_place c.self.inside.heap.memory p ≡ bytes_in c.self.inside.heap.memory (range_at (non_zero_usize_get c.args.addr) c.args.len) =
    ap₂ (λ addr len. bytes_in c.self.inside.heap.memory (range_at addr len)) at long in (
      omega (arith, front-le a.here.bytes lent front, is),
      ap (λ n. take n lent) (sym is) ∙ front ∙ here_bytes a ∙ there,
    )

pub slice_bounds-result-end : goal.slice_bounds-result-end
slice_bounds-result-end c = sym (length-take-le c.args.len c.payload.result.now (front c).0)

pub returns : goal.returns
returns c = record {
  bytes = rw (← c.self.view_is) (front c).1;
  len = length-take-le c.args.len c.payload.result.now (front c).0;
}
