use Rattle.std.proofs.Common.{rules, ◌≡◌, ◌∷◌, ◌++◌, ℕ, List, Some, lit<, ap, sym, subst, ◌∙◌}
use Rattle.std.specs.Int.NonZero.{non_zero_usize_get}
use Rattle.rlsf_example_libraries.specs.Stored.{KeepsAt, HasSame, Place, StoreContents, store_contents}
use Rattle.rlsf_example_libraries.proofs.Places.{HasSame-removed, among}
use Rattle.rlsf_example_libraries.specs.Tiles.{KeepsUniform}
use Rattle.rlsf_example_libraries.proofs.Tilings.{KeepsUniform-released}
use Rattle.rlsf_example_libraries.proofs.Stores.{IsStore-removed, live_stored}
use Rattle.rlsf_example_libraries.proofs.store.Store.remove.Goals as goal

pub deallocate-requires : goal.deallocate-requires
deallocate-requires c =
    let (before, after, p, has, at, aligned) = subst (λ (old : StoreContents). (before after : List Place) × (p : Place) × KeepsAt old (before ++ p ∷ after)
    × (p.addr ≡ non_zero_usize_get c.args.addr) × (p.align ≡ c.args.align)) (sym c.self.view_is) c.requires in
    let a = among before after p has in
    (lit< tt, live_stored a.front a.back a.here (ap (λ q. q.addr) a.here_at ∙ at) a.is ∙ ap Some (ap (λ q. q.align) a.here_at ∙ aligned))

pub returns : goal.returns
returns c = record {
  removed =
      subst (λ (old : StoreContents). (before after : List Place) (p : Place) → KeepsAt old (before ++ p ∷ after) → p.addr ≡ non_zero_usize_get c.args.addr
      → p.align ≡ c.args.align
      → HasSame old (store_contents c.deallocate.new.self c.self.inside.pool) (before ++ after)) c.self.view_is
      (λ before after p has at aligned. HasSame-removed before after p has at aligned
      (λ front back k store at _. IsStore-removed front back k at store c.deallocate.new.self c.deallocate.ensures.step c.deallocate.ensures.frame.place));
  uniform =
      subst (λ (old : StoreContents). (len : ℕ) → KeepsUniform old.heap.state c.deallocate.new.self.state len) c.self.view_is
      (λ len d is. KeepsUniform-released c.self.inside.heap c.deallocate.new.self (non_zero_usize_get c.args.addr) len c.deallocate.ensures.step d is);
  place = search rules;
  touches = search rules;
}
