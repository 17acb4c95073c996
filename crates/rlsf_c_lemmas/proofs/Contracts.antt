-- The contracts of an export and of the call that it makes.
use Rattle.rlsf_c_lemmas.proofs.Walking.{ℕ, [], ◌∷◌, full_share, fact, ‵, raw, ◌$◌, ◌∵◌, !, qed, done, move, join, fpack, w64, usize, uint_Lawful, yes, Is, Ptr, RawPtr}
use Rattle.rlsf_c_lemmas.proofs.Walking.{lies_at, plain, nothing, heard, Val}
use Rattle.rlsf_c_lemmas.proofs.Parameters.{Parameters}
use Prim.Native.Nat.{suc}
use base.Fml.{fex}
use base.Logic.{SProp, ent, sep, emp}
use lib.Dec.{T}
use mir.Val.{has_ty, WT}
use seplogic.Ra.Ura.{Ura}
use types.Logic.{Logic, sem}
use denote.Memory.{lone}
use denote.RattleType.{RattleType}
use denote.Signature.{Signature, mut_ref_to}
use denote.Triple.Clauses.{Ended, Clauses}

-- what an export returns: one machine value, which is of its type
pub record Returned : Type 2 where
  pub row : RattleType
  pub typed : (r : row.Denot) (v : Val) → Is row r (v ∷ []) → T (has_ty (lone row.mir) v) × WT v

abbrev pub number : {M : Type 1} {𝓤 : Ura M} → Logic 𝓤 → Returned
number 𝓛 = record { row = usize; typed = λ r v is. ((uint_Lawful 𝓛 w64).typed r _ is).0 }

-- R is the type of what lies behind the handle, A that of the result, N of what the contracts read of the other arguments, and X of what they
-- read of these at the return
module _ {M : Type 1} {𝓤 : Ura M} (𝓛 : Logic 𝓤) (R A : RattleType) (N X : Type 0) where
  -- The export requires a value behind its handle, and what the call requires. What the call ensures, and the value that it leaves, are what the
  -- export ensures.
  pub record Contracts : Type 2 where
    pub Ghost : Type 0
    pub InnerGhost : Type 0
    pub value : Ghost → R.Denot
    pub inner : Ghost → InnerGhost
    pub requires : Ptr → N → Ghost → SProp 𝓤
    pub ensures : Ptr → N → X → Ghost → A.Denot → SProp 𝓤
    pub call_requires : R.Denot → N → InnerGhost → SProp 𝓤
    pub call_ensures : R.Denot → N → X → InnerGhost → A.Denot → R.Denot → SProp 𝓤
    pub opens : (p : Ptr) (x : N) (g : Ghost) → ent 𝓤 (requires p x g) (sep 𝓤 (sem 𝓛 (lies_at R full_share p (value g))) (call_requires (value g) x (inner g)))
    pub closes : (p : Ptr) (x : N) (e : X) (g : Ghost) (r : A.Denot) (v : R.Denot)
        → ent 𝓤 (sep 𝓤 (sem 𝓛 (lies_at R full_share p v)) (call_ensures (value g) x e (inner g) r v)) (ensures p x e g r)

  -- what a call does: the value before, the arguments and these at the return, the result, and the value after
  abbrev pub Change : Type 1
  Change = R.Denot → N → X → A.Denot → R.Denot → Type 0

  pub some_value : (Did : Change) (p : Ptr) (x : N) (e : X) (before : R.Denot) (r : A.Denot) (after : R.Denot)
      → ent 𝓤 (sep 𝓤 (sem 𝓛 (lies_at R full_share p after)) (fact 𝓤 (Did before x e r after)))
      (sem 𝓛 (fex ((v : R.Denot) × Did before x e r v) (λ z. lies_at R full_share p z.0)))
  some_value Did p x e before r after =
      qed 𝓛 (‵ (lies_at R full_share p after) ∷ raw (fact 𝓤 (Did before x e r after)) ∷ []) ∵ move ! (1 ∷ []) $ heard ! _ (λ did.
      fpack ! ((v : R.Denot) × Did before x e r v) (λ z. lies_at R full_share p z.0) (after, did) $ done !)

module _ {M : Type 1} {𝓤 : Ura M} {𝓛 : Logic 𝓤} {R A : RattleType} {N X : Type 0} where
  -- a call without a condition
  abbrev pub changes : Change 𝓛 R A N X → Contracts 𝓛 R A N X
  changes Did = record {
    Ghost = R.Denot;
    InnerGhost = Unit {0};
    value = λ before. before;
    inner = λ before. tt;
    requires = λ p x before. sem 𝓛 (lies_at R full_share p before);
    ensures = λ p x e before r. sem 𝓛 (fex ((after : R.Denot) × Did before x e r after) (λ z. lies_at R full_share p z.0));
    call_requires = λ before x i. emp 𝓤;
    call_ensures = λ before x e i r after. fact 𝓤 (Did before x e r after);
    opens = λ p x before. qed 𝓛 (‵ (lies_at R full_share p before) ∷ []) ∵ nothing ! $ move ! (1 ∷ 0 ∷ []) $ join ! $ done !;
    closes = some_value 𝓛 R A N X Did;
  }

-- the two contracts at the parameters Q
module _ {M : Type 1} {𝓤 : Ura M} {𝓛 : Logic 𝓤} {m : ℕ} (Q : Parameters 𝓛 m) (R A : RattleType) (P : Contracts 𝓛 R A Q.Read Q.Seen) where
  abbrev pub signature : Signature
  signature = record { lifetimes = m; outlives = []; params = plain (λ κs. RawPtr) ∷ Q.slots; result = plain (λ κs. A) }

  abbrev pub ended : Ended
  ended = record { signature = signature; kept = (yes, Q.kept) }

  abbrev pub clauses : Clauses 𝓤 ended
  clauses = λ κs a. record {
    ghost = P.Ghost;
    requires = λ g. P.requires a.0 (Q.read κs a.1) g;
    ensures = λ g r e. P.ensures a.0 (Q.read κs a.1) (Q.seen κs e.1) g r;
  }

  abbrev pub call_signature : Signature
  call_signature = record { lifetimes = suc m; outlives = []; params = mut_ref_to (0 ∷ []) tt (plain (λ κs. R)) ∷ Q.call_slots; result = plain (λ κs. A) }

  abbrev pub call_ended : Ended
  call_ended = record { signature = call_signature; kept = (yes, Q.call_kept) }

  abbrev pub call_clauses : Clauses 𝓤 call_ended
  call_clauses = λ κs a. record {
    ghost = P.InnerGhost;
    requires = λ i. P.call_requires a.0.now (Q.call_read κs a.1) i;
    ensures = λ i r e. P.call_ensures a.0.now (Q.call_read κs a.1) (Q.call_seen κs e.1) i r e.0.now;
  }
