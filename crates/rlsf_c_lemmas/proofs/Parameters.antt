-- The parameters of an export after its handle: numbers, each of which is a `usize`, and then at most one slice.
use Rattle.rlsf_c_lemmas.proofs.Walking.{◌≡◌, ℕ, List, [], ◌∷◌, refl, ap, w64, id⊢, vint, Val, usize, yes, uint_vals, uint_Tells, plain, MutBor, ‵, raw, ◌⊛◌, fact}
use Rattle.rlsf_c_lemmas.proofs.Walking.{Stays, stay_dropped, Goes-dropped, ◌$◌, ◌∵◌, !, qed, done, move, drop, split, join, fsplit, fjoin, feq_l, heard, nothing, use0, use1}
use Rattle.rlsf_c_lemmas.proofs.Walking.{fact_i, emp, named}
use Prim.Native.Nat.{zero, suc}
use base.Fml.{Lft, ftrue}
use base.Logic.{ent, sep, mono_r}
use contract.Lifetimes.{Lfts}
use denote.Laws.{Spells, Tellss, Ises, Are, valss}
use denote.RattleType.{RattleType, Denots, Valss, flat, owns}
use denote.Signature.{Slot, types_at, mut_slice_of, shr_slice_of}
use denote.Slice.{mut_slice_vals, mut_slice_Tells, shr_slice_vals, shr_slice_Tells}
use denote.Triple.End.{Kepts, Fins, Outs, outs, lasts_of}
use denote.Triple.Walked.{AllGo, has_of, fits_of, gave_slice, Goes-gave_slice}
use lib.ListN.{length}
use mir.Val.{Fits}
use seplogic.Ra.Ura.{Ura}
use denote.Bor.{Bor}
use types.Logic.{Logic, sem}

-- the parameters of an export with m lifetimes, and how it passes them to a call, which has one lifetime more, α
pub record Parameters {M : Type 1} {𝓤 : Ura M} (𝓛 : Logic 𝓤) (m : ℕ) : Type 2 where
  pub slots : List (Slot m)
  pub kept : Kepts slots
  pub stays : Stays slots kept
  pub go : AllGo 𝓛 m slots kept stays
  pub call_slots : List (Slot (suc m))
  pub call_kept : Kepts call_slots
  -- what the two contracts read of the arguments, and at the return
  pub Read : Type 0
  pub Seen : Type 0
  pub read : (κs : Lfts m) → Denots (types_at slots κs) → Read
  pub seen : (κs : Lfts m) → Outs κs slots kept → Seen
  pub call_read : (κs : Lfts (suc m)) → Denots (types_at call_slots κs) → Read
  pub call_seen : (κs : Lfts (suc m)) → Outs κs call_slots call_kept → Seen
  -- the machine values
  pub machine : Read → List Val
  pub Fit : Read → Type 0
  pub spelled : (κs : Lfts m) → Spells (types_at slots κs)
  pub told : (κs : Lfts m) → Tellss (types_at slots κs) (Ises (types_at slots κs)) (spelled κs)
  pub flat_is : (κs : Lfts m) (a : Denots (types_at slots κs)) → flat (types_at slots κs) (valss (types_at slots κs) (spelled κs) a) ≡ machine (read κs a)
  pub fits : (κs : Lfts m) (a : Denots (types_at slots κs)) → Are (types_at slots κs) (Ises (types_at slots κs)) a (valss (types_at slots κs) (spelled κs) a)
      → Fit (read κs a)
  -- the arguments of the call
  pub pass : (κs : Lfts m) (α : Lft) → Denots (types_at slots κs) → Denots (types_at call_slots (α, κs))
  pub pass_values : (κs : Lfts m) (α : Lft) → Denots (types_at slots κs) → Valss (types_at call_slots (α, κs))
  pub pass_read : (κs : Lfts m) (α : Lft) (a : Denots (types_at slots κs)) → call_read (α, κs) (pass κs α a) ≡ read κs a
  pub pass_flat : (κs : Lfts m) (α : Lft) (a : Denots (types_at slots κs)) → flat (types_at call_slots (α, κs)) (pass_values κs α a) ≡ machine (read κs a)
  pub pass_owned : (κs : Lfts m) (α : Lft) (a : Denots (types_at slots κs)) → Fit (read κs a)
      → ent 𝓤 (sem 𝓛 (owns (types_at slots κs) a (valss (types_at slots κs) (spelled κs) a))) (sem 𝓛 (owns (types_at call_slots (α, κs)) (pass κs α a) (pass_values κs α a)))
  -- what the call leaves of them
  pub back : (κs : Lfts m) (α : Lft) (a : Denots (types_at slots κs)) → Fins (α, κs) call_slots call_kept (pass κs α a) → Fins κs slots kept a
  pub back_seen : (κs : Lfts m) (α : Lft) (a : Denots (types_at slots κs)) (ws : Fins (α, κs) call_slots call_kept (pass κs α a))
      → call_seen (α, κs) (outs (α, κs) call_slots call_kept (pass κs α a) ws) ≡ seen κs (outs κs slots kept a (back κs α a ws))
  pub back_had : (κs : Lfts m) (α : Lft) (a : Denots (types_at slots κs)) (ws : Fins (α, κs) call_slots call_kept (pass κs α a))
      → ent 𝓤 (sem 𝓛 (lasts_of (α, κs) call_slots call_kept (pass κs α a) ws))
      (sep 𝓤 (sem 𝓛 (has_of κs slots kept stays a (back κs α a ws) (valss (types_at slots κs) (spelled κs) a))) (fact 𝓤 (fits_of κs slots kept stays a (back κs α a ws))))

module _ {M : Type 1} {𝓤 : Ura M} {𝓛 : Logic 𝓤} where
  -- no more parameters
  abbrev pub none : {m : ℕ} → Parameters 𝓛 m
  none {m} = record {
    slots = [];
    kept = tt;
    stays = tt;
    go = tt;
    call_slots = [];
    call_kept = tt;
    Read = Unit {0};
    Seen = Unit {0};
    read = λ κs a. tt;
    seen = λ κs e. tt;
    call_read = λ κs a. tt;
    call_seen = λ κs e. tt;
    machine = λ x. [];
    Fit = λ x. Unit {0};
    spelled = λ κs. tt;
    told = λ κs. tt;
    flat_is = λ κs a. refl;
    fits = λ κs a are. tt;
    pass = λ κs α a. tt;
    pass_values = λ κs α a. tt;
    pass_read = λ κs α a. refl;
    pass_flat = λ κs α a. refl;
    pass_owned = λ κs α a fit. id⊢ 𝓤 (emp 𝓤);
    back = λ κs α a ws. tt;
    back_seen = λ κs α a ws. refl;
    back_had = λ κs α a ws. qed 𝓛 [] ∵ use0 𝓛 (raw (fact 𝓤 (Unit {0}))) (fact_i 𝓤 (Unit {0}) (emp 𝓤) tt) $ nothing ! $ join ! $ done !;
  }

  -- a number, and then P
  abbrev pub number_and : {m : ℕ} → Parameters 𝓛 m → Parameters 𝓛 m
  number_and {m} P = record {
    slots = plain (λ κs. usize) ∷ P.slots;
    kept = (yes, P.kept);
    stays = (stay_dropped _ yes, P.stays);
    go = (Goes-dropped 𝓛 m (plain (λ _. usize)) yes (λ κs x w. refl), P.go);
    call_slots = plain (λ κs. usize) ∷ P.call_slots;
    call_kept = (yes, P.call_kept);
    Read = ℕ × P.Read;
    Seen = P.Seen;
    read = λ κs a. (a.0, P.read κs a.1);
    seen = λ κs e. P.seen κs e.1;
    call_read = λ κs a. (a.0, P.call_read κs a.1);
    call_seen = λ κs e. P.call_seen κs e.1;
    machine = λ x. vint w64 x.0 ∷ P.machine x.1;
    Fit = λ x. Fits w64 x.0 × P.Fit x.1;
    spelled = λ κs. (uint_vals w64, P.spelled κs);
    told = λ κs. (uint_Tells w64, P.told κs);
    flat_is = λ κs a. ap (λ (vs : List Val). vint w64 a.0 ∷ vs) (P.flat_is κs a.1);
    fits = λ κs a are. (record { fits = are.0.1 }, P.fits κs a.1 are.1);
    pass = λ κs α a. (a.0, P.pass κs α a.1);
    pass_values = λ κs α a. (uint_vals w64 a.0, P.pass_values κs α a.1);
    pass_read = λ κs α a. ap (λ (x : P.Read). (a.0, x)) (P.pass_read κs α a.1);
    pass_flat = λ κs α a. ap (λ (vs : List Val). vint w64 a.0 ∷ vs) (P.pass_flat κs α a.1);
    pass_owned = λ κs α a fit. mono_r 𝓤 (sem 𝓛 (usize.own_val a.0 (uint_vals w64 a.0))) (P.pass_owned κs α a.1 fit.1);
    back = λ κs α a ws. (tt, P.back κs α a.1 ws.1);
    back_seen = λ κs α a ws. P.back_seen κs α a.1 ws.1;
    back_had = λ κs α a ws. qed 𝓛 (‵ ftrue ∷ ‵ (lasts_of (α, κs) P.call_slots P.call_kept (P.pass κs α a.1) ws.1) ∷ []) ∵ drop ! $
        use1 𝓛 (‵ (has_of κs P.slots P.kept P.stays a.1 (P.back κs α a.1 ws.1) (valss (types_at P.slots κs) (P.spelled κs) a.1))
        ⊛ raw (fact 𝓤 (fits_of κs P.slots P.kept P.stays a.1 (P.back κs α a.1 ws.1)))) (P.back_had κs α a.1 ws.1) $ split ! $ nothing ! $ join ! $
        move ! (1 ∷ []) $ heard ! _ (λ fit. use0 𝓛 (raw (fact 𝓤 (Unit {0} × fits_of κs P.slots P.kept P.stays a.1 (P.back κs α a.1 ws.1)))) (fact_i 𝓤 _ (emp 𝓤) (tt, fit)) $
        move ! (1 ∷ 0 ∷ []) $ join ! $ done !);
  }

  -- n numbers, and then P
  abbrev pub numbers : {m : ℕ} → ℕ → Parameters 𝓛 m → Parameters 𝓛 m
  numbers zero P = P
  numbers (suc n) P = number_and (numbers n P)

module _ {M : Type 1} {𝓤 : Ura M} {𝓛 : Logic 𝓤} (E : RattleType) where
  -- a slice that the call may change
  abbrev pub mutable : Parameters 𝓛 1
  mutable = record {
    slots = mut_slice_of (0 ∷ []) tt (plain (λ _. E)) ∷ [];
    kept = (yes, tt);
    stays = (gave_slice (0 ∷ []) tt (plain (λ _. E)), tt);
    go = (Goes-gave_slice 𝓛 1 0 tt (plain (λ _. E)), tt);
    call_slots = mut_slice_of (1 ∷ []) tt (plain (λ _. E)) ∷ [];
    call_kept = (yes, tt);
    Read = MutBor (List E.Denot);
    Seen = List E.Denot;
    read = λ κs a. a.0;
    seen = λ κs e. e.0.now;
    call_read = λ κs a. a.0;
    call_seen = λ κs e. e.0.now;
    machine = mut_slice_vals;
    Fit = λ x. Fits w64 (length x.now);
    spelled = λ κs. (mut_slice_vals, tt);
    told = λ κs. (mut_slice_Tells (named 0) κs.0 E, tt);
    flat_is = λ κs a. refl;
    fits = λ κs a are. record { fits = are.0.0.1.0 };
    pass = λ κs α a. (a.0, tt);
    pass_values = λ κs α a. (mut_slice_vals a.0, tt);
    pass_read = λ κs α a. refl;
    pass_flat = λ κs α a. refl;
    pass_owned = λ κs α a fit. id⊢ 𝓤 _;
    back = λ κs α a ws. (ws.0, tt);
    back_seen = λ κs α a ws. refl;
    back_had = λ κs α a ws. qed 𝓛 (‵ (lasts_of {n = 2} (α, κs) (mut_slice_of (1 ∷ []) tt (plain (λ _. E)) ∷ []) (yes, tt) (a.0, tt) ws) ∷ []) ∵
        fsplit ! $ fsplit ! $ fsplit ! $ move ! (1 ∷ []) $ feq_l ! (λ long. fjoin ! $ move ! (1 ∷ 0 ∷ []) $ drop ! $ nothing ! $ move ! (1 ∷ 0 ∷ []) $ join ! $
        use0 𝓛 (raw (fact 𝓤 ((length ws.0 ≡ length a.0.now) × Unit {0}))) (fact_i 𝓤 _ (emp 𝓤) (long, tt)) $ move ! (1 ∷ 0 ∷ []) $ join ! $ done !);
  }

  -- a slice that the call reads
  abbrev pub shared : Parameters 𝓛 1
  shared = record {
    slots = shr_slice_of (0 ∷ []) tt (plain (λ _. E)) ∷ [];
    kept = (yes, tt);
    stays = (stay_dropped _ yes, tt);
    go = (Goes-dropped 𝓛 1 (shr_slice_of (0 ∷ []) tt (plain (λ _. E))) yes (λ κs x w. refl), tt);
    call_slots = shr_slice_of (1 ∷ []) tt (plain (λ _. E)) ∷ [];
    call_kept = (yes, tt);
    Read = Bor (List E.Denot);
    Seen = Unit {0};
    read = λ κs a. a.0;
    seen = λ κs e. tt;
    call_read = λ κs a. a.0;
    call_seen = λ κs e. tt;
    machine = shr_slice_vals;
    Fit = λ x. Fits w64 (length x.now);
    spelled = λ κs. (shr_slice_vals, tt);
    told = λ κs. (shr_slice_Tells (named 0) κs.0 E, tt);
    flat_is = λ κs a. refl;
    fits = λ κs a are. record { fits = are.0.0.1.0 };
    pass = λ κs α a. (a.0, tt);
    pass_values = λ κs α a. (shr_slice_vals a.0, tt);
    pass_read = λ κs α a. refl;
    pass_flat = λ κs α a. refl;
    pass_owned = λ κs α a fit. id⊢ 𝓤 _;
    back = λ κs α a ws. (tt, tt);
    back_seen = λ κs α a ws. refl;
    back_had = λ κs α a ws. qed 𝓛 (‵ (lasts_of {n = 2} (α, κs) (shr_slice_of (1 ∷ []) tt (plain (λ _. E)) ∷ []) (yes, tt) (a.0, tt) ws) ∷ []) ∵
        drop ! $ use0 𝓛 (raw (fact 𝓤 (Unit {0} × Unit {0}))) (fact_i 𝓤 _ (emp 𝓤) (tt, tt)) $ nothing ! $ nothing ! $ join ! $ join ! $ done !;
  }
