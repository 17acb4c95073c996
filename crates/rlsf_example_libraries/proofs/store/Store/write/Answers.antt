use Rattle.std.proofs.Common.{rules, ◌≡◌, ◌+◌, ◌<◌, ◌≤◌, ◌∷◌, ◌++◌, ℕ, List, length, take, IsSome, lit<, arith, refl, sym, ◌∙◌, ap, subst}
use Rattle.std.specs.Int.NonZero.{non_zero_usize_get}
use Rattle.std.specs.List.{splice}
use Rattle.rlsf_base.proofs.Words.Splices.{length-splice}
use Rattle.rlsf_tlsf.specs.Lending.{written}
use Rattle.rlsf_example_libraries.specs.Stored.{HasAmong, KeepsAt, Place, StoreContents, bytes_at_place, place, store_contents, stored}
use Rattle.rlsf_example_libraries.proofs.Fronts.{front-le, front-splice}
use Rattle.rlsf_example_libraries.proofs.Places.{HasAmong-changed, among}
use Rattle.rlsf_example_libraries.specs.Tiles.{KeepsUniform}
use Rattle.rlsf_example_libraries.proofs.Tilings.{KeepsUniform-filled}
use Rattle.rlsf_example_libraries.proofs.Stores.{IsStore-filled, few_stored, front_stored, live_stored}
use Rattle.rlsf_example_libraries.proofs.store.Store.write.Goals as goal

-- so many bytes are kept there, or more
abbrev HasHere : StoreContents → ℕ → ℕ → Type 0
HasHere v addr end = (before after : List Place) × (p : Place) × KeepsAt v (before ++ p ∷ after) × (p.addr ≡ addr) × (end ≤ p.len)

pub payload_mut-requires : goal.payload_mut-requires
payload_mut-requires c =
    let (before, after, p, has, at, room) = subst (λ (old : StoreContents). HasHere old (non_zero_usize_get c.args.addr) (c.args.offset + length c.args.bytes.now))
    (sym c.self.view_is) c.requires in
    let a = among before after p has in
    (lit< tt, subst IsSome (sym (live_stored a.front a.back a.here (ap (λ q. q.addr) a.here_at ∙ at) a.is)) refl)

pub write_at-requires : goal.write_at-requires
write_at-requires c =
    let (before, after, p, has, at, room) = subst (λ (old : StoreContents). HasHere old (non_zero_usize_get c.args.addr) (c.args.offset + length c.args.bytes.now))
    (sym c.self.view_is) c.requires in
    let a = among before after p has in
    let begins = front_stored a.front a.back a.here (ap (λ q. q.addr) a.here_at ∙ at) a.is in
    omega (arith, room, front-le a.here.bytes _ begins, ap length c.payload_mut.ensures.value, ap (λ q. q.len) a.here_at)

pub returns : goal.returns
returns c = record {
  stored =
      let addr = non_zero_usize_get c.args.addr in
      let offset = c.args.offset in
      let bytes = c.args.bytes.now in
      let end = offset + length bytes in
      let lent = c.payload_mut.result.now in
      let w = c.write_at.new.payload in
      subst (λ (old : StoreContents). (before after : List Place) (p : Place) → KeepsAt old (before ++ p ∷ after) → p.addr ≡ addr → end ≤ p.len
      → HasAmong old (store_contents (written c.self.inside.heap addr (length lent) w) c.self.inside.pool) before after p
      (splice (bytes_at_place old.heap.memory p) offset end bytes)) c.self.view_is
      (λ before after p has at room. HasAmong-changed before after p p (splice (bytes_at_place c.self.inside.heap.memory p) offset end bytes) has (λ front back k store there are.
      let now = splice k.bytes offset end bytes in
      let within : end ≤ length k.bytes = omega (arith, room, ap (λ q. q.len) there) in
      let same : place k.addr k.align (length now) ≡ p = ap (λ n. place k.addr k.align n) (length-splice k.bytes bytes offset (length bytes) within refl) ∙ there in
      let k_at = ap (λ q. q.addr) there ∙ at in
      let begins : take (length k.bytes) lent ≡ k.bytes = ap (take (length k.bytes)) c.payload_mut.ensures.value ∙ front_stored front back k k_at store in
      let writes : take (length now) w ≡ now = ap (take (length now)) c.write_at.ensures.bytes ∙ front-splice k.bytes lent bytes offset begins within in
      let few : length w < length now + 32 =
      omega (
        arith,
        c.write_at.ensures.len,
        ap length c.payload_mut.ensures.value,
        few_stored front back k k_at store,
        length-splice k.bytes bytes offset (length bytes) within refl,
      ) in
      let stores = IsStore-filled front back k k_at store (written c.self.inside.heap addr (length lent) w) w now writes few
      (c.payload_mut.ensures.meaning w c.write_at.ensures.len) (c.payload_mut.ensures.rest w).1 in
      (stored k.addr k.align now, stores, same, ap (λ bs. splice bs offset end bytes) are)));
  uniform =
      let h = c.self.inside.heap in
      let addr = non_zero_usize_get c.args.addr in
      let w = c.write_at.new.payload in
      let last = written h addr (length c.payload_mut.result.now) w in
      subst (λ (old : StoreContents). (places : List Place) (len : ℕ) → KeepsAt old places → KeepsUniform old.heap.state last.state len) c.self.view_is
      (λ places len (all, store, at) d is. KeepsUniform-filled h store.stands last addr len w (c.payload_mut.ensures.meaning w c.write_at.ensures.len) d is);
  place = search rules;
  touches = search rules;
}
