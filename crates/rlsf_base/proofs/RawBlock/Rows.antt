-- Bytes side by side in a block, some of them out. Such a row is cut, glued, and seen through a `&`. Assumes `Logic`.
--     snoc           a row and the byte after it
--     emptied        a row is room for as many bytes
--     held-in        bytes none of which is out are a row
--     run_out, run_in, run_seen      n bytes from the i-th on are taken out of the held ones, put in again, or seen.
--     goes, comes, clash    the run leaves for good, and comes back; a row that is owned beside them was out
use Rattle.std.proofs.Common.{◌≡◌, ℕ, zero, suc, ◌+◌, ◌<◌, ◌≤◌, true, List, [], ◌∷◌, ◌++◌, length, take, drop, map, refl, sym, ap, subst, ◌∙◌}
use Rattle.std.proofs.Common.{arith, take-append-drop, length-take, length-drop, drop-drop, w8}
use seplogic.Ra.Ura.{Ura}
use base.Fraction.{full_share}
use base.Logic.{ent, sep, emp, never, id⊢, via, never_e}
use base.Fml.{Lft, Fml, ftrue, fsep, fat, froom}
use prog.Model
use prog.Model.{Model}
use contract.Monad.{fact, fact_i}
use types.Logic.{Logic, sem}
use types.Kit.{‵, raw as raw', ◌⊛◌, ◌$◌, ◌∵◌, !, qed, by, move, keep, use0, use1, use2, split, fsplit, fjoin, rewrite, drop as skip, done}
use types.SemTy.{cells}
use denote.Memory.{mem, part_at}
use denote.Builtin.{u8}
use denote.Slice.{elements_shared}
use denote.Steps.{nothing, heard}
use denote.Plain.{uint_out, uint_in}
use mir.Syntax.{ty_int}
use mir.Val.{vint}
use Rattle.std.proofs.Common.{inl, inr}
use Rattle.std.proofs.lemmas.Bool.{false≢true}
use Rattle.std.proofs.Math.Nat.{eq-or-lt_of_le}
use Rattle.rlsf_base.specs.Out.{Change, Kept, here, raw, out, is_own, kept_at}
use Rattle.rlsf_base.specs.Changes.{change, AreBytesHere, AreBytesOut, IsOwn, left, came_back, came_raw, shifted}
use Rattle.rlsf_base.specs.Steps.Ownership.{bytes_ty, byte_in, held, byte_shown, bytes_shown}
use Rattle.rlsf_base.proofs.Changes.{changed-there, changed-before, changed-behind, back-at, shifted-at}

-- what holds at k and from there on holds from k on
or-first : (is : ℕ → Kept) (k j : ℕ) → is k ≡ out → (suc k ≤ j → is j ≡ out) → k ≤ j → is j ≡ out
or-first is k j first others lo = elim (eq-or-lt_of_le lo) [
  | inl e ↦ subst (λ a. is a ≡ out) e first
  | inr l ↦ others l
]

-- ---- bytes that are held

module _ {M : Type 1} {𝓤 : Ura M} (𝓛 : Logic 𝓤) (b : ℕ) where
  abbrev pub Row : ℕ → List ℕ → Fml
  Row o xs = cells (mem u8) xs b o

  pub emptied : (xs : List ℕ) (o : ℕ) → ent 𝓤 (sem 𝓛 (Row o xs)) (𝓛.H.room (bytes_ty (length xs)) b o)
  emptied [] o = 𝓛.laws.room_nil (ty_int w8) b o
  emptied (x ∷ xs) o = qed 𝓛 (‵ (Row o (x ∷ xs)) ∷ []) ∵ fsplit ! $ use1 𝓛 (‵ (fat full_share (ty_int w8) b o (vint w8 x))) (uint_out 𝓛 full_share w8 x b o) $
      use1 𝓛 (‵ (froom (ty_int w8) b o)) (𝓛.laws.at_room (ty_int w8) b o (vint w8 x)) $ move ! (1 ∷ []) $
      use1 𝓛 (‵ (froom (bytes_ty (length xs)) b (o + 1))) (emptied xs (o + 1)) $ move ! (1 ∷ 0 ∷ []) $ by ! (𝓛.laws.room_cons (ty_int w8) (length xs) b o)

  -- the elements of an array that lies in the block
  pub from_elems : (xs : List ℕ) (o : ℕ) → ent 𝓤 (prog.Model.elems 𝓤 𝓛.H full_share (ty_int w8) b o (map (λ x. vint w8 x) xs)) (sem 𝓛 (Row o xs))
  from_elems [] o = id⊢ 𝓤 _
  from_elems (x ∷ xs) o =
      qed 𝓛 (‵ (fat full_share (ty_int w8) b o (vint w8 x)) ∷ raw' (prog.Model.elems 𝓤 𝓛.H full_share (ty_int w8) b (o + 1) (map (λ y. vint w8 y) xs)) ∷ []) ∵
      use1 𝓛 (‵ (part_at u8 full_share x b o)) (uint_in 𝓛 full_share w8 x b o) $ move ! (1 ∷ []) $ use1 𝓛 (‵ (Row (o + 1) xs)) (from_elems xs (o + 1)) $ move !
      (1 ∷ 0 ∷ []) $ fjoin ! $ done !

  pub held-in : (is : ℕ → Kept) (k : ℕ) (xs : List ℕ) (o : ℕ) → ((j : ℕ) → k ≤ j → j < k + length xs → is j ≡ here) → held is k xs b o ≡ Row o xs
  held-in is k [] o h = refl
  held-in is k (x ∷ xs) o h = λ i. fsep (byte_in (h k (omega arith) (omega arith) i) x b o) (held-in is (suc k) xs (o + 1) (λ j lo hi. h j (omega arith) (omega arith)) i)

  pub held-same : (is is' : ℕ → Kept) (k : ℕ) (xs : List ℕ) (o : ℕ) → ((j : ℕ) → k ≤ j → j < k + length xs → is j ≡ is' j)
      → held is k xs b o ≡ held is' k xs b o
  held-same is is' k [] o h = refl
  held-same is is' k (x ∷ xs) o h =
      λ i. fsep (byte_in (h k (omega arith) (omega arith) i) x b o) (held-same is is' (suc k) xs (o + 1) (λ j lo hi. h j (omega arith) (omega arith)) i)

  -- the same bytes by places that are counted from another one on
  held-counted : (is is' : ℕ → Kept) (k k' : ℕ) (xs : List ℕ) (o : ℕ) → ((j : ℕ) → j < length xs → is (k + j) ≡ is' (k' + j))
      → held is k xs b o ≡ held is' k' xs b o
  held-counted is is' k k' [] o h = refl
  held-counted is is' k k' (x ∷ xs) o h =
      let first : is k ≡ is' k' = (λ l. is (let e : k ≡ k + 0 = omega arith in e l)) ∙ h 0 (omega arith) ∙ (λ l. is' (let e : k' + 0 ≡ k' = omega arith in e l)) in
      let others = held-counted is is' (suc k) (suc k') xs (o + 1)
      (λ j lo. (λ l. is (let e : suc k + j ≡ k + suc j = omega arith in e l)) ∙ h (suc j) (omega arith)
      ∙ (λ l. is' (let e : k' + suc j ≡ suc k' + j = omega arith in e l))) in
      λ i. fsep (byte_in (first i) x b o) (others i)

  -- of bytes that are all out, nothing is held
  pub held-gone : (is : ℕ → Kept) (k : ℕ) (xs : List ℕ) (o : ℕ) → ((j : ℕ) → k ≤ j → j < k + length xs → is j ≡ out)
      → ent 𝓤 (emp 𝓤) (sem 𝓛 (held is k xs b o))
  held-gone is k [] o h = id⊢ 𝓤 (emp 𝓤)
  held-gone is k (x ∷ xs) o h =
      qed 𝓛 [] ∵ use0 𝓛 (‵ (held is (suc k) xs b (o + 1))) (held-gone is (suc k) xs (o + 1) (λ j lo hi. h j (omega arith) (omega arith))) $ nothing ! $
      rewrite ! 0 (λ (t : Kept). ‵ (byte_in t x b o)) {x = is k} {y = out} (sym (h k (omega arith) (omega arith))) refl $ fjoin ! $ done !

  -- bytes of one's own are room for as many, and room is bytes that are raw
  byte-room : (t : Kept) (x o : ℕ) → is_own t ≡ true → ent 𝓤 (sem 𝓛 (byte_in t x b o)) (𝓛.H.room (ty_int w8) b o)
  byte-room here x o own =
      qed 𝓛 (‵ (part_at u8 full_share x b o) ∷ []) ∵ use1 𝓛 (‵ (fat full_share (ty_int w8) b o (vint w8 x))) (uint_out 𝓛 full_share w8 x b o) $ by !
      (𝓛.laws.at_room (ty_int w8) b o (vint w8 x))
  byte-room raw x o own = id⊢ 𝓤 _
  byte-room out x o own = absurd (false≢true own)

  pub held-room : (is : ℕ → Kept) (k : ℕ) (xs : List ℕ) (o : ℕ) → ((j : ℕ) → k ≤ j → j < k + length xs → is_own (is j) ≡ true)
      → ent 𝓤 (sem 𝓛 (held is k xs b o)) (𝓛.H.room (bytes_ty (length xs)) b o)
  held-room is k [] o h = 𝓛.laws.room_nil (ty_int w8) b o
  held-room is k (x ∷ xs) o h =
      qed 𝓛 (‵ (held is k (x ∷ xs) b o) ∷ []) ∵ fsplit ! $ use1 𝓛 (‵ (froom (ty_int w8) b o)) (byte-room (is k) x o (h k (omega arith) (omega arith))) $ move !
      (1 ∷ []) $
      use1 𝓛 (‵ (froom (bytes_ty (length xs)) b (o + 1))) (held-room is (suc k) xs (o + 1) (λ j lo hi. h j (omega arith) (omega arith))) $ move ! (1 ∷ 0 ∷ []) $ by !
      (𝓛.laws.room_cons (ty_int w8) (length xs) b o)

  pub room-held : (is : ℕ → Kept) (k : ℕ) (xs : List ℕ) (o : ℕ) → ((j : ℕ) → k ≤ j → j < k + length xs → is j ≡ raw)
      → ent 𝓤 (𝓛.H.room (bytes_ty (length xs)) b o) (sem 𝓛 (held is k xs b o))
  room-held is k [] o h = qed 𝓛 (‵ (froom (bytes_ty 0) b o) ∷ []) ∵ skip ! $ nothing ! $ done !
  room-held is k (x ∷ xs) o h = qed 𝓛 (‵ (froom (bytes_ty (suc (length xs))) b o) ∷ []) ∵
      use1 𝓛 (‵ (froom (ty_int w8) b o) ⊛ ‵ (froom (bytes_ty (length xs)) b (o + 1))) (𝓛.laws.room_uncons (ty_int w8) (length xs) b o) $ split ! $
      rewrite ! 0 (λ (t : Kept). ‵ (byte_in t x b o)) {x = is k} {y = raw} (sym (h k (omega arith) (omega arith))) refl $ move ! (1 ∷ []) $
      use1 𝓛 (‵ (held is (suc k) xs b (o + 1))) (room-held is (suc k) xs (o + 1) (λ j lo hi. h j (omega arith) (omega arith))) $ move ! (1 ∷ 0 ∷ []) $ fjoin ! $ done !

  cut : (is : ℕ → Kept) (xs ys : List ℕ) (k k' o at : ℕ) → k' ≡ length xs + k → at ≡ length xs + o
      → ent 𝓤 (sem 𝓛 (held is k (xs ++ ys) b o)) (sep 𝓤 (sem 𝓛 (held is k xs b o)) (sem 𝓛 (held is k' ys b at)))
  cut is [] ys k k' o at e' e = let p : k ≡ k' = omega (arith, e') in let q : o ≡ at = omega (arith, e) in
      qed 𝓛 (‵ (held is k ys b o) ∷ []) ∵ rewrite ! 0 (λ (u : ℕ × ℕ). ‵ (held is u.0 ys b u.1)) {x = (k', at)} {y = (k, o)} (λ i. (p i, q i)) refl $ nothing ! $
      done !
  cut is (x ∷ xs) ys k k' o at e' e = qed 𝓛 (‵ (held is k (x ∷ xs ++ ys) b o) ∷ []) ∵ fsplit ! $ move ! (1 ∷ []) $
      use1 𝓛 (‵ (held is (suc k) xs b (o + 1)) ⊛ ‵ (held is k' ys b at)) (cut is xs ys (suc k) k' (o + 1) at (omega (arith, e')) (omega (arith, e))) $ split ! $ move !
      (2 ∷ 0 ∷ []) $ fjoin ! $ done !

  glue : (is : ℕ → Kept) (xs ys : List ℕ) (k k' o at : ℕ) → k' ≡ length xs + k → at ≡ length xs + o
      → ent 𝓤 (sep 𝓤 (sem 𝓛 (held is k xs b o)) (sem 𝓛 (held is k' ys b at))) (sem 𝓛 (held is k (xs ++ ys) b o))
  glue is [] ys k k' o at e' e = let p : k' ≡ k = omega (arith, e') in let q : at ≡ o = omega (arith, e) in
      qed 𝓛 (‵ ftrue ∷ ‵ (held is k' ys b at) ∷ []) ∵ skip ! $ rewrite ! 0 (λ (u : ℕ × ℕ). ‵ (held is u.0 ys b u.1)) {x = (k, o)} {y = (k', at)}
      (λ i. (p i, q i)) refl $ done !
  glue is (x ∷ xs) ys k k' o at e' e = qed 𝓛 (‵ (held is k (x ∷ xs) b o) ∷ ‵ (held is k' ys b at) ∷ []) ∵ fsplit ! $ move ! (1 ∷ 2 ∷ []) $
      use2 𝓛 (‵ (held is (suc k) (xs ++ ys) b (o + 1))) (glue is xs ys (suc k) k' (o + 1) at (omega (arith, e')) (omega (arith, e))) $ move ! (1 ∷ 0 ∷ []) $ fjoin ! $
      done !

  -- the bytes except for the n from the i-th on
  abbrev pub Around : (ℕ → Kept) → ℕ → List ℕ → ℕ → ℕ → Fml
  Around is o xs i n = fsep (held is 0 (take i xs) b o) (held is (i + n) (drop (i + n) xs) b (n + (i + o)))

  apart : (is : ℕ → Kept) (o : ℕ) (xs : List ℕ) (i n : ℕ) → i + n ≤ length xs
      → ent 𝓤 (sem 𝓛 (held is 0 xs b o)) (sep 𝓤 (sem 𝓛 (held is i (take n (drop i xs)) b (i + o))) (sem 𝓛 (Around is o xs i n)))
  apart is o xs i n le =
      let run = take n (drop i xs) in
      qed 𝓛 (‵ (held is 0 xs b o) ∷ []) ∵
      rewrite ! 0 (λ (l : List ℕ). ‵ (held is 0 l b o))
      (sym (take-append-drop i xs) ∙ ap (λ l. take i xs ++ l) (sym (take-append-drop n (drop i xs)) ∙ ap (λ l. run ++ l) (drop-drop n i xs))) refl $
      use1 𝓛 (‵ (held is 0 (take i xs) b o) ⊛ ‵ (held is i (run ++ drop (i + n) xs) b (i + o)))
      (cut is (take i xs) (run ++ drop (i + n) xs) 0 i o (i + o) (omega (arith, length-take i xs)) (omega (arith, length-take i xs))) $ split ! $ move ! (1 ∷ []) $
      use1 𝓛 (‵ (held is i run b (i + o)) ⊛ ‵ (held is (i + n) (drop (i + n) xs) b (n + (i + o))))
      (cut is run (drop (i + n) xs) i (i + n) (i + o) (n + (i + o)) (omega (arith, length-take n (drop i xs), length-drop i xs))
      (omega (arith, length-take n (drop i xs), length-drop i xs))) $
      split ! $ move ! (2 ∷ 1 ∷ []) $ fjoin ! $ move ! (1 ∷ []) $ done !

  together : (is : ℕ → Kept) (o : ℕ) (xs : List ℕ) (i n : ℕ) → i + n ≤ length xs → (ws : List ℕ) → n ≡ length ws
      → ent 𝓤 (sep 𝓤 (sem 𝓛 (held is i ws b (i + o))) (sem 𝓛 (Around is o xs i n))) (sem 𝓛 (held is 0 (take i xs ++ (ws ++ drop (i + n) xs)) b o))
  together is o xs i n le ws long = qed 𝓛 (‵ (held is i ws b (i + o)) ∷ ‵ (Around is o xs i n) ∷ []) ∵ move ! (1 ∷ []) $ fsplit ! $ move ! (2 ∷ 1 ∷ []) $
      use2 𝓛 (‵ (held is i (ws ++ drop (i + n) xs) b (i + o))) (glue is ws (drop (i + n) xs) i (i + n) (i + o) (n + (i + o)) (omega (arith, long)) (omega (arith, long))) $
      move ! (1 ∷ 0 ∷ []) $
      by ! (glue is (take i xs) (ws ++ drop (i + n) xs) 0 i o (i + o) (omega (arith, length-take i xs)) (omega (arith, length-take i xs)))

  -- the bytes around the run don't determine the run
  around-same : (t : Kept) (cs : List Change) (o : ℕ) (xs : List ℕ) (i n : ℕ) → i + n ≤ length xs
      → Around (kept_at cs) o xs i n ≡ Around (kept_at (change t i n ∷ cs)) o xs i n
  around-same t cs o xs i n le =
      let new = kept_at (change t i n ∷ cs) in
      let before = held-same (kept_at cs) new 0 (take i xs) o (λ j lo hi. sym (changed-before t cs i n j (omega (arith, length-take i xs, le)))) in
      let behind = held-same (kept_at cs) new (i + n) (drop (i + n) xs) (n + (i + o)) (λ j lo hi. sym (changed-behind t cs i n j lo)) in
      λ j. fsep (before j) (behind j)

  module _ (cs : List Change) (o : ℕ) (xs : List ℕ) (i n : ℕ) where
    pub run_out : i + n ≤ length xs → AreBytesHere cs i n
        → ent 𝓤 (sem 𝓛 (held (kept_at cs) 0 xs b o)) (sep 𝓤 (sem 𝓛 (Row (i + o) (take n (drop i xs)))) (sem 𝓛 (Around (kept_at cs) o xs i n)))
    run_out le inside =
        let run = take n (drop i xs) in
        qed 𝓛 (‵ (held (kept_at cs) 0 xs b o) ∷ []) ∵ use1 𝓛 (‵ (held (kept_at cs) i run b (i + o)) ⊛ ‵ (Around (kept_at cs) o xs i n))
        (apart (kept_at cs) o xs i n le) $ split ! $
        rewrite ! 0 (λ (F : Fml). ‵ F) (held-in (kept_at cs) i run (i + o) (λ j lo hi. inside j lo (omega (arith, length-take n (drop i xs))))) refl $ done !

    pub run_in : i + n ≤ length xs → AreBytesHere cs i n → (ws : List ℕ) → n ≡ length ws
        → ent 𝓤 (sep 𝓤 (sem 𝓛 (Row (i + o) ws)) (sem 𝓛 (Around (kept_at cs) o xs i n))) (sem 𝓛 (held (kept_at cs) 0 (take i xs ++ (ws ++ drop (i + n) xs)) b o))
    run_in le inside ws long = qed 𝓛 (‵ (Row (i + o) ws) ∷ ‵ (Around (kept_at cs) o xs i n) ∷ []) ∵
        rewrite ! 0 (λ (F : Fml). ‵ F) (sym (held-in (kept_at cs) i ws (i + o) (λ j lo hi. inside j lo (omega (arith, long))))) refl $
        by ! (together (kept_at cs) o xs i n le ws long)

    -- the run is taken out as it is
    pub part_out : i + n ≤ length xs
        → ent 𝓤 (sem 𝓛 (held (kept_at cs) 0 xs b o))
        (sep 𝓤 (sem 𝓛 (held (kept_at (shifted i cs)) 0 (take n (drop i xs)) b (i + o))) (sem 𝓛 (Around (kept_at cs) o xs i n)))
    part_out le =
        let run = take n (drop i xs) in
        qed 𝓛 (‵ (held (kept_at cs) 0 xs b o) ∷ []) ∵ use1 𝓛 (‵ (held (kept_at cs) i run b (i + o)) ⊛ ‵ (Around (kept_at cs) o xs i n))
        (apart (kept_at cs) o xs i n le) $ split ! $
        rewrite ! 0 (λ (F : Fml). ‵ F)
        (held-counted (kept_at cs) (kept_at (shifted i cs)) i 0 run (i + o)
        (λ j lo. sym ((λ l. kept_at (shifted i cs) (let e : 0 + j ≡ j = omega arith in e l)) ∙ shifted-at i cs j))) refl $ done !

    -- the run is taken out as room
    pub room_out : i + n ≤ length xs → IsOwn cs i n
        → ent 𝓤 (sem 𝓛 (held (kept_at cs) 0 xs b o)) (sep 𝓤 (𝓛.H.room (bytes_ty n) b (i + o)) (sem 𝓛 (Around (kept_at cs) o xs i n)))
    room_out le own =
        let run = take n (drop i xs) in let as_many : length run ≡ n = omega (arith, length-take n (drop i xs), length-drop i xs) in
        qed 𝓛 (‵ (held (kept_at cs) 0 xs b o) ∷ []) ∵ use1 𝓛 (‵ (held (kept_at cs) i run b (i + o)) ⊛ ‵ (Around (kept_at cs) o xs i n))
        (apart (kept_at cs) o xs i n le) $ split ! $
        use1 𝓛 (‵ (froom (bytes_ty (length run)) b (i + o))) (held-room (kept_at cs) i run (i + o) (λ j lo hi. own j lo (omega (arith, as_many)))) $
        rewrite ! 0 (λ (k : ℕ). ‵ (froom (bytes_ty k) b (i + o))) as_many refl $ done !

    uncut : xs ≡ take i xs ++ (take n (drop i xs) ++ drop (i + n) xs)
    uncut = sym (take-append-drop i xs) ∙ ap (λ l. take i xs ++ l) (sym (take-append-drop n (drop i xs)) ∙ ap (λ l. take n (drop i xs) ++ l) (drop-drop n i xs))

    -- bytes of another kind are where the run was
    pub stands : (t : Kept) → i + n ≤ length xs → (ws : List ℕ) → n ≡ length ws
        → ent 𝓤 (sep 𝓤 (sem 𝓛 (held (kept_at (change t i n ∷ cs)) i ws b (i + o))) (sem 𝓛 (Around (kept_at cs) o xs i n)))
        (sem 𝓛 (held (kept_at (change t i n ∷ cs)) 0 (take i xs ++ (ws ++ drop (i + n) xs)) b o))
    stands t le ws long = let new = kept_at (change t i n ∷ cs) in qed 𝓛 (‵ (held new i ws b (i + o)) ∷ ‵ (Around (kept_at cs) o xs i n) ∷ []) ∵
        rewrite ! 1 (λ (F : Fml). ‵ F) (around-same t cs o xs i n le) refl $ by ! (together new o xs i n le ws long)

    -- they have these values
    pub written : i + n ≤ length xs → (ws : List ℕ) → n ≡ length ws
        → ent 𝓤 (sep 𝓤 (sem 𝓛 (Row (i + o) ws)) (sem 𝓛 (Around (kept_at cs) o xs i n)))
        (sem 𝓛 (held (kept_at (came_back i n cs)) 0 (take i xs ++ (ws ++ drop (i + n) xs)) b o))
    written le ws long =
        let new = kept_at (came_back i n cs) in let changed = kept_at (change here i n ∷ cs) in let all = take i xs ++ (ws ++ drop (i + n) xs) in
        qed 𝓛 (‵ (Row (i + o) ws) ∷ ‵ (Around (kept_at cs) o xs i n) ∷ []) ∵
        rewrite ! 0 (λ (F : Fml). ‵ F) (sym (held-in changed i ws (i + o) (λ j lo hi. changed-there here cs i n j lo (omega (arith, long))))) refl $
        use2 𝓛 (‵ (held changed 0 all b o)) (stands here le ws long) $
        rewrite ! 0 (λ (F : Fml). ‵ F) (held-same changed new 0 all o (λ j lo hi. sym (back-at cs i n j))) refl $ done !

    -- the run has left
    pub goes : i + n ≤ length xs → ent 𝓤 (sem 𝓛 (Around (kept_at cs) o xs i n)) (sem 𝓛 (held (kept_at (left i n cs)) 0 xs b o))
    goes le =
        let run = take n (drop i xs) in let is = kept_at (left i n cs) in
        qed 𝓛 (‵ (Around (kept_at cs) o xs i n) ∷ []) ∵
        use0 𝓛 (‵ (held is i run b (i + o))) (held-gone is i run (i + o) (λ j lo hi. changed-there out cs i n j lo (omega (arith, length-take n (drop i xs))))) $
        use2 𝓛 (‵ (held is 0 (take i xs ++ (run ++ drop (i + n) xs)) b o)) (stands out le run (omega (arith, length-take n (drop i xs), length-drop i xs))) $
        rewrite ! 0 (λ (l : List ℕ). ‵ (held is 0 l b o)) (sym uncut) refl $ done !

    without : i + n ≤ length xs → ent 𝓤 (sem 𝓛 (held (kept_at cs) 0 xs b o)) (sem 𝓛 (Around (kept_at cs) o xs i n))
    without le =
        qed 𝓛 (‵ (held (kept_at cs) 0 xs b o) ∷ []) ∵ use1 𝓛 (‵ (held (kept_at cs) i (take n (drop i xs)) b (i + o)) ⊛ ‵ (Around (kept_at cs) o xs i n))
        (apart (kept_at cs) o xs i n le) $ split ! $ skip ! $ done !

    -- the run has come back, with these bytes
    pub comes : i + n ≤ length xs → (ws : List ℕ) → n ≡ length ws
        → ent 𝓤 (sep 𝓤 (sem 𝓛 (Row (i + o) ws)) (sem 𝓛 (held (kept_at cs) 0 xs b o)))
        (sem 𝓛 (held (kept_at (came_back i n cs)) 0 (take i xs ++ (ws ++ drop (i + n) xs)) b o))
    comes le ws long = qed 𝓛 (‵ (Row (i + o) ws) ∷ ‵ (held (kept_at cs) 0 xs b o) ∷ []) ∵ move ! (1 ∷ []) $
        use1 𝓛 (‵ (Around (kept_at cs) o xs i n)) (without le) $ move ! (1 ∷ 0 ∷ []) $ by ! (written le ws long)

    -- the run has come back, as room
    pub comes_raw : i + n ≤ length xs
        → ent 𝓤 (sep 𝓤 (𝓛.H.room (bytes_ty n) b (i + o)) (sem 𝓛 (held (kept_at cs) 0 xs b o))) (sem 𝓛 (held (kept_at (came_raw i n cs)) 0 xs b o))
    comes_raw le =
        let run = take n (drop i xs) in let is = kept_at (came_raw i n cs) in let as_many : n ≡ length run = omega (arith, length-take n (drop i xs), length-drop i xs) in
        qed 𝓛 (‵ (froom (bytes_ty n) b (i + o)) ∷ ‵ (held (kept_at cs) 0 xs b o) ∷ []) ∵ move ! (1 ∷ []) $
        use1 𝓛 (‵ (Around (kept_at cs) o xs i n)) (without le) $ move ! (1 ∷ []) $ rewrite ! 0 (λ (k : ℕ). ‵ (froom (bytes_ty k) b (i + o))) as_many refl $
        use1 𝓛 (‵ (held is i run b (i + o))) (room-held is i run (i + o) (λ j lo hi. changed-there raw cs i n j lo (omega (arith, as_many)))) $
        use2 𝓛 (‵ (held is 0 (take i xs ++ (run ++ drop (i + n) xs)) b o)) (stands raw le run as_many) $
        rewrite ! 0 (λ (l : List ℕ). ‵ (held is 0 l b o)) (sym uncut) refl $ done !

  -- ---- two owners do not overlap
  module _ (𝓜 : Model 𝓤 𝓛.H) where
    byte-clash : (t : Kept) (x o : ℕ) → ent 𝓤 (sep 𝓤 (sem 𝓛 (byte_in t x b o)) (𝓛.H.room (ty_int w8) b o)) (fact 𝓤 (t ≡ out))
    byte-clash here x o = qed 𝓛 (‵ (byte_in here x b o) ∷ ‵ (froom (ty_int w8) b o) ∷ []) ∵ use1 𝓛 (‵ (froom (ty_int w8) b o)) (byte-room here x o refl) $
        use2 𝓛 (raw' (never 𝓤)) (𝓜.room-room (ty_int w8) (ty_int w8) b o o o (omega arith, omega arith) (omega arith, omega arith)) $ by ! (never_e 𝓤 _)
    byte-clash raw x o = via 𝓤 (never 𝓤) (𝓜.room-room (ty_int w8) (ty_int w8) b o o o (omega arith, omega arith) (omega arith, omega arith)) (never_e 𝓤 _)
    byte-clash out x o = fact_i 𝓤 (out ≡ out) _ refl

    clash-room : (is : ℕ → Kept) (k : ℕ) (xs : List ℕ) (o : ℕ)
        → ent 𝓤 (sep 𝓤 (sem 𝓛 (held is k xs b o)) (𝓛.H.room (bytes_ty (length xs)) b o)) (fact 𝓤 ((j : ℕ) → k ≤ j → j < k + length xs → is j ≡ out))
    clash-room is k [] o = fact_i 𝓤 _ _ (λ j lo hi. absurd (omega arith))
    clash-room is k (x ∷ xs) o =
        qed 𝓛 (‵ (held is k (x ∷ xs) b o) ∷ ‵ (froom (bytes_ty (suc (length xs))) b o) ∷ []) ∵ fsplit ! $ move ! (2 ∷ []) $
        use1 𝓛 (‵ (froom (ty_int w8) b o) ⊛ ‵ (froom (bytes_ty (length xs)) b (o + 1))) (𝓛.laws.room_uncons (ty_int w8) (length xs) b o) $ split ! $ move !
        (2 ∷ 0 ∷ []) $
        use2 𝓛 (raw' (fact 𝓤 (is k ≡ out))) (byte-clash (is k) x o) $ heard ! (is k ≡ out) (λ first. move ! (1 ∷ 0 ∷ []) $
        use2 𝓛 (raw' (fact 𝓤 ((j : ℕ) → suc k ≤ j → j < suc k + length xs → is j ≡ out))) (clash-room is (suc k) xs (o + 1)) $
        heard ! ((j : ℕ) → suc k ≤ j → j < suc k + length xs → is j ≡ out) (λ others.
        by ! (fact_i 𝓤 ((j : ℕ) → k ≤ j → j < k + suc (length xs) → is j ≡ out) (emp 𝓤)
        (λ j lo hi. or-first is k j first (λ lo'. others j lo' (omega arith)) lo))))

    pub clash : (cs : List Change) (o : ℕ) (xs : List ℕ) (i n : ℕ) → i + n ≤ length xs
        → ent 𝓤 (sep 𝓤 (𝓛.H.room (bytes_ty n) b (i + o)) (sem 𝓛 (held (kept_at cs) 0 xs b o))) (fact 𝓤 (AreBytesOut cs i n))
    clash cs o xs i n le =
        let run = take n (drop i xs) in let as_many : n ≡ length run = omega (arith, length-take n (drop i xs), length-drop i xs) in
        qed 𝓛 (‵ (froom (bytes_ty n) b (i + o)) ∷ ‵ (held (kept_at cs) 0 xs b o) ∷ []) ∵ move ! (1 ∷ []) $
        use1 𝓛 (‵ (held (kept_at cs) i run b (i + o)) ⊛ ‵ (Around (kept_at cs) o xs i n)) (apart (kept_at cs) o xs i n le) $ split ! $ keep ! (0 ∷ 2 ∷ []) $
        rewrite ! 1 (λ (k : ℕ). ‵ (froom (bytes_ty k) b (i + o))) as_many refl $
        use2 𝓛 (raw' (fact 𝓤 ((j : ℕ) → i ≤ j → j < i + length run → kept_at cs j ≡ out))) (clash-room (kept_at cs) i run (i + o)) $
        heard ! ((j : ℕ) → i ≤ j → j < i + length run → kept_at cs j ≡ out)
        (λ was. by ! (fact_i 𝓤 (AreBytesOut cs i n) (emp 𝓤) (λ j lo hi. was j lo (omega (arith, as_many)))))

    -- bytes with values are room
    pub clash_row : (cs : List Change) (o : ℕ) (xs : List ℕ) (i : ℕ) (ws : List ℕ) → i + length ws ≤ length xs
        → ent 𝓤 (sep 𝓤 (sem 𝓛 (Row (i + o) ws)) (sem 𝓛 (held (kept_at cs) 0 xs b o))) (fact 𝓤 (AreBytesOut cs i (length ws)))
    clash_row cs o xs i ws le =
        qed 𝓛 (‵ (Row (i + o) ws) ∷ ‵ (held (kept_at cs) 0 xs b o) ∷ []) ∵ use1 𝓛 (‵ (froom (bytes_ty (length ws)) b (i + o))) (emptied ws (i + o)) $ by !
        (clash cs o xs i (length ws) le)

  module _ (κ : Lft) where
    abbrev Seen : (ℕ → Kept) → ℕ → ℕ → List ℕ → Fml
    Seen is k o xs = bytes_shown is k xs b o κ

    shown-in : (is : ℕ → Kept) (k : ℕ) (xs : List ℕ) (o : ℕ) → ((j : ℕ) → k ≤ j → j < k + length xs → is j ≡ here)
        → Seen is k o xs ≡ elements_shared u8 xs b o κ
    shown-in is k [] o h = refl
    shown-in is k (x ∷ xs) o h =
        λ i. fsep (byte_shown (h k (omega arith) (omega arith) i) x b o κ) (shown-in is (suc k) xs (o + 1) (λ j lo hi. h j (omega arith) (omega arith)) i)

    from_on : (is : ℕ → Kept) (xs : List ℕ) (i k k' o at : ℕ) → i ≤ length xs → k' ≡ i + k → at ≡ i + o
        → ent 𝓤 (sem 𝓛 (Seen is k o xs)) (sem 𝓛 (Seen is k' at (drop i xs)))
    from_on is xs zero k k' o at le e' e = let p : k ≡ k' = omega (arith, e') in let q : o ≡ at = omega (arith, e) in
        subst (λ (u : ℕ × ℕ). ent 𝓤 (sem 𝓛 (Seen is k o xs)) (sem 𝓛 (Seen is u.0 u.1 xs))) (λ i. (p i, q i)) (id⊢ 𝓤 _)
    from_on is [] (suc i) k k' o at le e' e = absurd (omega arith)
    from_on is (x ∷ xs) (suc i) k k' o at le e' e =
        qed 𝓛 (‵ (Seen is k o (x ∷ xs)) ∷ []) ∵ fsplit ! $ keep ! (1 ∷ []) $ by !
        (from_on is xs i (suc k) k' (o + 1) at (omega arith) (omega (arith, e')) (omega (arith, e)))

    up_to : (is : ℕ → Kept) (xs : List ℕ) (n k o : ℕ) → ent 𝓤 (sem 𝓛 (Seen is k o xs)) (sem 𝓛 (Seen is k o (take n xs)))
    up_to is xs zero k o = qed 𝓛 (‵ (Seen is k o xs) ∷ []) ∵ keep ! [] $ done !
    up_to is [] (suc n) k o = id⊢ 𝓤 _
    up_to is (x ∷ xs) (suc n) k o =
        qed 𝓛 (‵ (Seen is k o (x ∷ xs)) ∷ []) ∵ fsplit ! $ move ! (1 ∷ []) $ use1 𝓛 (‵ (Seen is (suc k) (o + 1) (take n xs))) (up_to is xs n (suc k) (o + 1)) $
        move ! (1 ∷ 0 ∷ []) $ fjoin ! $ done !

    pub run_seen : (cs : List Change) (o : ℕ) (xs : List ℕ) (i n : ℕ) → i ≤ length xs → AreBytesHere cs i n
        → ent 𝓤 (sem 𝓛 (bytes_shown (kept_at cs) 0 xs b o κ)) (sem 𝓛 (elements_shared u8 (take n (drop i xs)) b (i + o) κ))
    run_seen cs o xs i n le inside =
        let is = kept_at cs in let run = take n (drop i xs) in
        qed 𝓛 (‵ (Seen is 0 o xs) ∷ []) ∵ use1 𝓛 (‵ (Seen is i (i + o) (drop i xs))) (from_on is xs i 0 i o (i + o) le (omega arith) refl) $
        use1 𝓛 (‵ (Seen is i (i + o) run)) (up_to is (drop i xs) n i (i + o)) $
        rewrite ! 0 (λ (F : Fml). ‵ F) (shown-in is i run (i + o) (λ j lo hi. inside j lo (omega (arith, length-take n (drop i xs))))) refl $ done !
