-- What a store keeps, by its places.
use Rattle.std.proofs.Common.{◌≡◌, ℕ, List, [], ◌∷◌, ◌++◌, length, map, Option, None, IfNone, refl, sym, ◌∙◌, ap, subst, inr}
use Rattle.std.proofs.Math.Path.{ap₂}
use Rattle.std.proofs.lemmas.List.{append-nil, map-append}
use Rattle.rlsf_base.specs.Space.{SamePlace}
use Rattle.rlsf_base.specs.declared.memory.range.Range.{Range}
use Rattle.rlsf_model.specs.State.{State}
use Rattle.rlsf_model.proofs.Coverage.{IsIn-append_left, IsIn-append_right}
use Rattle.rlsf_tlsf.specs.Allocator.{Allocator, Steps}
use Rattle.rlsf_example_libraries.specs.Stored.{HasAmong, KeepsAll, KeepsAt, HasSame, IsStore, Place, Stored, StoreContents, bytes_at_place, lists_at, place, place_of}
use Rattle.rlsf_example_libraries.specs.Stored.{store_contents, stored}
use Rattle.rlsf_example_libraries.proofs.Kept.{IsIn-middle}
use Rattle.rlsf_example_libraries.proofs.Stores.{IsStore-refused, bytes_at_place-kept, bytes_at_place-some, bytes_at_place-stored}

abbrev pub bytes_of : Stored → List ℕ
bytes_of k = k.bytes

-- a store that keeps the same has the same bytes at its places
pub HasSame-stored : {v w : StoreContents} (places : List Place) → KeepsAt v places → ((all : List Stored) → IsStore v all → IsStore w all) → HasSame v w places
HasSame-stored {v} {w} places (all, is, at) keeps =
    let now = keeps all is in
    ((all, now, at), ap (lists_at w) (sym at) ∙ bytes_at_place-stored w all now ∙ sym (bytes_at_place-stored v all is) ∙ ap (lists_at v) at)

-- where an allocator refused a call that asked for a payload, each list stays at its place
pub KeepsAll-refused : {A : Type 0} {heap : Allocator} {pool : Range} {old : StoreContents} → store_contents heap pool ≡ old → (w : Allocator) (step : State → Type 0)
    → Steps 59 8 heap w step → w.state ≡ heap.state → SamePlace heap.memory w.memory → (o : Option A) → o ≡ None → IfNone o (KeepsAll old (store_contents w pool))
KeepsAll-refused {heap = heap} {pool = pool} view w _ steps same place o none =
    subst (λ (x : StoreContents). IfNone o (KeepsAll x (store_contents w pool))) view
    (subst (λ z. IfNone z (KeepsAll (store_contents heap pool) (store_contents w pool))) (sym none)
    (λ places has. HasSame-stored places has (λ all. IsStore-refused w _ all steps same place)))

-- nothing is stored at no place
pub IsStore-none : {v : StoreContents} → KeepsAt v [] → IsStore v []
IsStore-none ([], is, at) = is
IsStore-none (k ∷ ks, is, at) = cc

-- what is stored at one of the places, and at those before and after it
pub record IsMiddle (v : StoreContents) (before after : List Place) (p : Place) : Type 0 where
  pub front : List Stored
  pub back : List Stored
  pub here : Stored
  pub is : IsStore v (front ++ here ∷ back)
  pub front_at : map place_of front ≡ before
  pub here_at : place_of here ≡ p
  pub back_at : map place_of back ≡ after

parts : (before : List Place) (p : Place) (after : List Place) (all : List Stored) → map place_of all ≡ before ++ p ∷ after
    → (front : List Stored) × (here : Stored) × (back : List Stored) × (all ≡ front ++ here ∷ back) × (map place_of front ≡ before) × (place_of here ≡ p)
    × (map place_of back ≡ after)
parts [] p after [] at = cc
parts [] p after (k ∷ ks) at = ([], k, ks, refl, refl, cc, cc)
parts (q ∷ qs) p after [] at = cc
parts (q ∷ qs) p after (k ∷ ks) at =
    let first : place_of k ≡ q = cc in
    let (front, here, back, whole, front_at, here_at, back_at) = parts qs p after ks (cc) in
    (k ∷ front, here, back, ap (λ l. k ∷ l) whole, ap₂ (λ x l. x ∷ l) first front_at, here_at, back_at)

pub among : {v : StoreContents} (before after : List Place) (p : Place) → KeepsAt v (before ++ p ∷ after) → IsMiddle v before after p
among {v} before after p (all, is, at) =
    let (front, here, back, whole, front_at, here_at, back_at) = parts before p after all at in
    record { front = front; back = back; here = here; is = subst (IsStore v) whole is; front_at = front_at; here_at = here_at; back_at = back_at }

module _ {v : StoreContents} {before after : List Place} {p : Place} (a : IsMiddle v before after p) where
  abbrev all_here : List Stored
  all_here = a.front ++ a.here ∷ a.back

  -- the bytes there, and before and after it
  pub here_bytes : a.here.bytes ≡ bytes_at_place v.heap.memory p
  here_bytes = sym (bytes_at_place-kept v all_here a.is a.here (IsIn-middle a.here a.front a.back)) ∙ ap (bytes_at_place v.heap.memory) a.here_at

  pub front_bytes : map bytes_of a.front ≡ lists_at v before
  front_bytes = sym (bytes_at_place-some v all_here a.is a.front (λ k i. IsIn-append_left k a.front (a.here ∷ a.back) i)) ∙ ap (lists_at v) a.front_at

  pub back_bytes : map bytes_of a.back ≡ lists_at v after
  back_bytes = sym (bytes_at_place-some v all_here a.is a.back (λ k i. IsIn-append_right k a.front (a.here ∷ a.back) (inr i))) ∙ ap (lists_at v) a.back_at

-- a place has as many bytes as it says
pub length-bytes_at_place : {v : StoreContents} (before after : List Place) (p : Place) → KeepsAt v (before ++ p ∷ after) → length (bytes_at_place v.heap.memory p) ≡ p.len
length-bytes_at_place before after p has = let a = among before after p has in ap length (sym (here_bytes a)) ∙ ap (λ q. q.len) a.here_at

-- ---- what a call leaves

-- one list among the others
pub HasAmong-stored : {v w : StoreContents} {before after : List Place} (front back : List Stored) (j : Stored) {p : Place} {bytes : List ℕ} → IsStore w (front ++ j ∷ back)
    → map place_of front ≡ before → map place_of back ≡ after
    → place_of j ≡ p → j.bytes ≡ bytes → map bytes_of front ≡ lists_at v before → map bytes_of back ≡ lists_at v after → HasAmong v w before after p bytes
HasAmong-stored {v} {w} {before} {after} front back j {p} is front_at back_at at are front_are back_are =
    let m : IsMiddle w before after p = record { front = front; back = back; here = j; is = is; front_at = front_at; here_at = at; back_at = back_at } in
    record {
      places = (front ++ j ∷ back, is, map-append place_of front (j ∷ back) ∙ ap₂ (λ f b. f ++ b) front_at (ap₂ (λ q b. q ∷ b) at back_at));
      front = sym (front_bytes m) ∙ front_are;
      here = sym (here_bytes m) ∙ are;
      back = sym (back_bytes m) ∙ back_are;
    }

pub HasAmong-added : {v w : StoreContents} (places : List Place) (addr align : ℕ) (bytes : List ℕ) (len : ℕ) → length bytes ≡ len → KeepsAt v places
    → ((before after : List Stored) → IsStore v (before ++ after) → IsStore w (before ++ stored addr align bytes ∷ after))
    → HasAmong v w places [] (place addr align len) bytes
HasAmong-added {v} places addr align bytes len long (all, is, at) stores =
    HasAmong-stored all [] (stored addr align bytes) (stores all [] (subst (IsStore v) (sym (append-nil all)) is)) at refl (ap (place addr align) long) refl
    (sym (bytes_at_place-stored v all is) ∙ ap (lists_at v) at) refl

pub HasAmong-changed : {v w : StoreContents} (before after : List Place) (p q : Place) (bytes : List ℕ) → KeepsAt v (before ++ p ∷ after)
    → ((front back : List Stored) (k : Stored) → IsStore v (front ++ k ∷ back) → place_of k ≡ p → k.bytes ≡ bytes_at_place v.heap.memory p → (j : Stored)
    × IsStore w (front ++ j ∷ back) × (place_of j ≡ q) × (j.bytes ≡ bytes))
    → HasAmong v w before after q bytes
HasAmong-changed before after p q bytes has changes =
    let a = among before after p has in
    let (j, is, at, are) = changes a.front a.back a.here a.is a.here_at (here_bytes a) in
    HasAmong-stored a.front a.back j is a.front_at a.back_at at are (front_bytes a) (back_bytes a)

pub HasSame-removed : {v w : StoreContents} {addr align : ℕ} (before after : List Place) (p : Place) → KeepsAt v (before ++ p ∷ after) → p.addr ≡ addr
    → p.align ≡ align
    → ((front back : List Stored) (k : Stored) → IsStore v (front ++ k ∷ back) → k.addr ≡ addr → k.align ≡ align → IsStore w (front ++ back))
    → HasSame v w (before ++ after)
HasSame-removed {v} {w} before after p has addr align stores =
    let a = among before after p has in
    let is = stores a.front a.back a.here a.is (ap (λ q. q.addr) a.here_at ∙ addr) (ap (λ q. q.align) a.here_at ∙ align) in
    let at = map-append place_of a.front a.back ∙ ap₂ (λ f b. f ++ b) a.front_at a.back_at in
    let are = map-append bytes_of a.front a.back ∙ ap₂ (λ f b. f ++ b) (front_bytes a) (back_bytes a) ∙ sym (map-append (bytes_at_place v.heap.memory) before after) in
    ((a.front ++ a.back, is, at), ap (lists_at w) (sym at) ∙ bytes_at_place-stored w (a.front ++ a.back) is ∙ are)

-- what is left once a list was added and removed
pub HasSame-given_back : {u v w : StoreContents} {p : Place} {bytes : List ℕ} (places : List Place) → HasAmong u v places [] p bytes → HasSame v w (places ++ [])
    → HasSame u w places
HasSame-given_back {v = v} {w = w} places added left = let now = subst (HasSame v w) (append-nil places) left in (now.0, now.1 ∙ added.front)
