-- What a loop over a list of live addresses needs. It may be empty, an allocation makes it longer and a deallocation shorter. Each of
-- its addresses is live and occurs once.
use Rattle.std.proofs.Common.{◌≡◌, ◌≢◌, ℕ, suc, zero, ◌<◌, List, [], ◌∷◌, ◌++◌, Some, None, length, get_or, drop, refl, sym, ◌∙◌, ap, arith}
use Rattle.std.proofs.lemmas.Option.{none-some}
use Rattle.std.specs.List.{AllByRecursion}
use Rattle.std.specs.declared.num.NonZeroUsize.{NonZeroUsize}
use Rattle.rlsf_base.specs.Addr.{at}
use Rattle.rlsf_model.specs.Callers.{align_at, bytes_at}
use Rattle.rlsf_model.specs.LiveAddresses.{AddsPayload, AreLive, payloads_at}
use Rattle.rlsf_model.specs.State.{State}

pub live_none : (s : State) (align : ℕ) → AreLive s align []
unfolding AreLive
live_none s align = tt

-- the first is live
pub live_first : (s : State) (align : ℕ) (a : NonZeroUsize) (rest : List NonZeroUsize) → AreLive s align (a ∷ rest) → align_at s (at a) ≡ Some align
unfolding AreLive
live_first s align a rest live = live.0

-- the last is live
pub live_last : (s : State) (align : ℕ) (front : List NonZeroUsize) (a : NonZeroUsize) → AreLive s align (front ++ a ∷ []) → align_at s (at a) ≡ Some align
unfolding AreLive
live_last s align [] a live = live.0
live_last s align (x ∷ xs) a live = live_last s align xs a live.2

-- each is live, by its index
pub live_at : (s : State) (align : ℕ) (all : List NonZeroUsize) (k : ℕ) (a : NonZeroUsize) → AreLive s align all → k < length all → a ≡ get_or all k a
    → align_at s (at a) ≡ Some align
unfolding AreLive
live_at s align [] k a live below is = absurd (omega arith)
live_at s align (x ∷ xs) zero a live below is = ap (λ b. align_at s (at b)) is ∙ live.0
live_at s align (x ∷ xs) (suc k) a live below is = live_at s align xs k a live.2 (omega arith) is

-- an address that is none of them isn't one of them by any index
other_at : (x : NonZeroUsize) (xs : List NonZeroUsize) (k : ℕ) (a : NonZeroUsize) → AllByRecursion (λ b. at b ≢ at x) xs → k < length xs → a ≡ get_or xs k a
    → at a ≢ at x
other_at x [] k a others below is = absurd (omega arith)
other_at x (y ∷ ys) zero a (off, offs) below is = λ e. off (ap at (sym is) ∙ e)
other_at x (y ∷ ys) (suc k) a (off, offs) below is = other_at x ys k a offs (omega arith) is

-- two of them differ, by their indices
pub live_apart : (s : State) (align : ℕ) (all : List NonZeroUsize) (j k : ℕ) (a b : NonZeroUsize) → AreLive s align all → j < length all → k < length all → j ≢ k
    → a ≡ get_or all j a → b ≡ get_or all k b → at a ≢ at b
unfolding AreLive
live_apart s align [] j k a b live low high other is_a is_b = absurd (omega arith)
live_apart s align (x ∷ xs) zero zero a b live low high other is_a is_b = absurd (other refl)
live_apart s align (x ∷ xs) zero (suc k) a b live low high other is_a is_b = λ e. other_at x xs k b live.1 (omega arith) is_b (sym e ∙ ap at is_a)
live_apart s align (x ∷ xs) (suc j) zero a b live low high other is_a is_b = λ e. other_at x xs j a live.1 (omega arith) is_a (e ∙ ap at is_b)
live_apart s align (x ∷ xs) (suc j) (suc k) a b live low high other is_a is_b =
    live_apart s align xs j k a b live.2 (omega arith) (omega arith) (λ e. other (ap suc e)) is_a is_b

-- they stay live where the calls meanwhile left their alignments
kept_where : (s t : State) (align : ℕ) (a : NonZeroUsize) (xs : List NonZeroUsize) → ((b : ℕ) → b ≢ at a → align_at t b ≡ align_at s b)
    → AllByRecursion (λ b. at b ≢ at a) xs → AreLive s align xs → AreLive t align xs
unfolding AreLive
kept_where s t align a [] same others live = tt
kept_where s t align a (x ∷ xs) same (off, offs) (here, apart, rest) = (same (at x) off ∙ here, apart, kept_where s t align a xs same offs rest)

-- the others stay live where the first is deallocated
pub live_rest : (s t : State) (align : ℕ) (a : NonZeroUsize) (rest : List NonZeroUsize) → AreLive s align (a ∷ rest)
    → ((b : ℕ) → b ≢ at a → align_at t b ≡ align_at s b) → AreLive t align rest
unfolding AreLive
live_rest s t align a rest live same = kept_where s t align a rest same live.1 live.2

-- the others are apart from the last
front_apart : (s : State) (align : ℕ) (front : List NonZeroUsize) (a : NonZeroUsize) → AreLive s align (front ++ a ∷ [])
    → AllByRecursion (λ b. at b ≢ at a) front × AreLive s align front
unfolding AreLive
front_apart s align [] a live = (tt, tt)
front_apart s align (x ∷ xs) a (here, apart, rest) =
    let (others, live) = front_apart s align xs a rest in
    let (mine, off) = split xs apart in
    ((λ e. off (sym e), others), (here, mine, live))
  where
    split : (ys : List NonZeroUsize) → AllByRecursion (λ b. at b ≢ at x) (ys ++ a ∷ []) → AllByRecursion (λ b. at b ≢ at x) ys × (at a ≢ at x)
    split [] (off, none) = (tt, off)
    split (y ∷ ys) (off, offs) = let (left, last) = split ys offs in ((off, left), last)

-- the others stay live where the last is deallocated
pub live_front : (s t : State) (align : ℕ) (front : List NonZeroUsize) (a : NonZeroUsize) → AreLive s align (front ++ a ∷ [])
    → ((b : ℕ) → b ≢ at a → align_at t b ≡ align_at s b) → AreLive t align front
live_front s t align front a live same =
    let (others, stay) = front_apart s align front a live in
    kept_where s t align a front same others stay

-- one more is live behind them where one is allocated
pub live_more : (s t : State) (align : ℕ) (all : List NonZeroUsize) (a : NonZeroUsize) → AreLive s align all → align_at s (at a) ≡ None → align_at t (at a) ≡ Some align
    → ((b : ℕ) → b ≢ at a → align_at t b ≡ align_at s b) → AreLive t align (all ++ a ∷ [])
unfolding AreLive
live_more s t align [] a live new made same = (made, tt, tt)
live_more s t align (x ∷ xs) a (here, apart, rest) new made same =
    (same (at x) (λ e. none-some align (sym new ∙ ap (align_at s) (sym e) ∙ here)) ∙ here, last xs apart, live_more s t align xs a rest new made same)
  where
    last : (ys : List NonZeroUsize) → AllByRecursion (λ b. at b ≢ at x) ys → AllByRecursion (λ b. at b ≢ at x) (ys ++ a ∷ [])
    last [] offs = (λ e. none-some align (sym new ∙ ap (align_at s) e ∙ here), tt)
    last (y ∷ ys) (off, offs) = (off, last ys offs)

-- all stay live where bytes change and no alignment does
pub live_kept : (s t : State) (align : ℕ) (all : List NonZeroUsize) → AreLive s align all → align_at t ≡ align_at s → AreLive t align all
unfolding AreLive
live_kept s t align [] live same = tt
live_kept s t align (x ∷ xs) (here, apart, rest) same = (ap (λ f. f (at x)) same ∙ here, apart, live_kept s t align xs rest same)

-- ---- their bytes

pub payloads_none : (s : State) → payloads_at s [] ≡ []
unfolding payloads_at
payloads_none s = refl

pub payloads_len : (s : State) (all : List NonZeroUsize) → length (payloads_at s all) ≡ length all
unfolding payloads_at
payloads_len s [] = refl
payloads_len s (a ∷ rest) = omega (arith, payloads_len s rest)

-- those at other addresses stay
payloads_kept : (s t : State) (a : NonZeroUsize) (xs : List NonZeroUsize) → ((b : ℕ) → b ≢ at a → bytes_at t b ≡ bytes_at s b)
    → AllByRecursion (λ b. at b ≢ at a) xs → payloads_at t xs ≡ payloads_at s xs
unfolding payloads_at
payloads_kept s t a [] same others = refl
payloads_kept s t a (x ∷ xs) same (off, offs) = λ i. same (at x) off i ∷ payloads_kept s t a xs same offs i

-- the oldest is freed
pub payloads_rest : (s t : State) (align : ℕ) (a : NonZeroUsize) (rest : List NonZeroUsize) → AreLive s align (a ∷ rest)
    → ((b : ℕ) → b ≢ at a → bytes_at t b ≡ bytes_at s b)
    → payloads_at t rest ≡ drop 1 (payloads_at s (a ∷ rest))
unfolding payloads_at AreLive
payloads_rest s t align a rest live same = payloads_kept s t a rest same live.1

-- an address at which nothing is live is none of those that are
not_live : (s : State) (align : ℕ) (a : NonZeroUsize) (xs : List NonZeroUsize) → AreLive s align xs → align_at s (at a) ≡ None → AllByRecursion (λ b. at b ≢ at a) xs
unfolding AreLive
not_live s align a [] live new = tt
not_live s align a (x ∷ xs) (here, apart, rest) new = (λ e. none-some align (sym new ∙ ap (align_at s) (sym e) ∙ here), not_live s align a xs rest new)

behind : (s : State) (a : NonZeroUsize) (xs : List NonZeroUsize) → payloads_at s (xs ++ a ∷ []) ≡ payloads_at s xs ++ bytes_at s (at a) ∷ []
unfolding payloads_at
behind s a [] = refl
behind s a (x ∷ xs) = ap (λ l. bytes_at s (at x) ∷ l) (behind s a xs)

-- one more is allocated, and bytes are written over its first ones
pub payloads_more : (s t u : State) (align : ℕ) (a : NonZeroUsize) (all : List NonZeroUsize) (bytes rest : List ℕ) → AreLive s align all → align_at s (at a) ≡ None
    → ((b : ℕ) → b ≢ at a → bytes_at t b ≡ bytes_at s b) → ((b : ℕ) → b ≢ at a → bytes_at u b ≡ bytes_at t b) → bytes_at u (at a) ≡ bytes ++ rest
    → AddsPayload (payloads_at s all) bytes (payloads_at u (all ++ a ∷ []))
unfolding AddsPayload
payloads_more s t u align a all bytes rest live new same later written =
    (rest, behind u a all ∙ (λ i. payloads_kept s u a all (λ b off. later b off ∙ same b off) (not_live s align a all live new) i ++ written i ∷ []))
