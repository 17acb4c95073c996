-- What payloads and loans by their addresses own, what a manual proof keeps of its parameters, and a struct of one number as a machine value. Assumes `Logic`.
use Rattle.std.proofs.Common.{T, ◌≡◌, ℕ, zero, suc, ◌+◌, ◌^◌, List, [], ◌∷◌, length, refl, sym, ap, subst, ◌∙◌, ◌≢◌, ◌<◌, arith, w64, set, false}
use seplogic.Ra.Ura.{Ura}
use base.Logic.{ent, id⊢, never, emp, SProp, sep, guard, via, guard_e, guard_i}
use base.Fml.{Fml, flt, fsep}
use types.Logic.{Logic, sem}
use types.Kit.{‵, ◌$◌, ◌∵◌, !, qed, use1, fsplit, fjoin, fpick, fpack, done, frame, each, assume, rewrite, flt_i, flt_l}
use denote.RawPtr.{Ptr, block_ptr, null_ptr, in_a_block}
use Rattle.rlsf_base.specs.Changes.{AreBytesHere, IsOwn}
use Rattle.rlsf_base.specs.Ledger.{extent, ticket_owns, Entry, Extent, entry_of, ledger_owns, IsIssued}
use Rattle.rlsf_base.specs.Out.{Change, is_own, kept_at}
use Rattle.rlsf_base.proofs.Changes.{none-out}
use Rattle.rlsf_base.specs.Piece.{piece_owns, first_place}
use Rattle.rlsf_base.specs.Steps.Ownership.{bytes_own, own_unit, units_in, ways_of}
use Rattle.rlsf_base.proofs.RawBlock.Rows.{held-same, held-in}
use Rattle.rlsf_base.proofs.RawBlock.Units.{unit-all, ways-same}
use Rattle.rlsf_heap.specs.Heap.{IsWritten, PayloadView, Identity}
use Rattle.rlsf_heap.specs.Raw.{CanComeBack, bytes_of, payload_owns}
use Rattle.rlsf_heap.specs.Thin.{owns_at, written_payload, owns_bytes}
use Rattle.rlsf_base.specs.OpenSpace.{place_in}
use Rattle.rlsf_base.specs.Range.{LiesIn, range_at}
use Rattle.rlsf_tlsf.specs.InPlace.{bytes_from}
use Rattle.rlsf_heap.specs.ThinInPlace.{LendsBytes, bytes_there}
use mir.Syntax.{ty_int, ty_struct, tcons, tnil}
use mir.Val.{Val, vint, vstruct, vcons, vnil}
use denote.Builtin.{usize}
use denote.Shadow.{shadow, makes_shadow}
use denote.Laws.{Tells, Is}
use Rattle.core.proofs.cell.Inside.{Good}
use Rattle.rlsf_heap.proofs.thin.ThinPayload.TheLaws.{lowers}
use Rattle.rlsf_base.proofs.RawBlock.Values.{plainly}
use Rattle.rlsf_heap.proofs.loan.Loan.TheLaws.{lowers as loan_lowers}
use contract.Monad.{fact_i, fact_use}
use Rattle.rlsf_base.proofs.RawBlock.Tickets.{redeems}
use Rattle.rlsf_heap.specs.contracts.thin.ThinPayload as thin
use Rattle.rlsf_heap.specs.contracts.loan.Loan as loan
use contract.Lifetimes.{Lfts}
use denote.Exit.{Last, left}
use denote.Param.Mute.{blank}
use denote.Signature.{Slot}
use denote.Triple.End.{Kepts}
use denote.Triple.Walked.{Stays, stay_dropped, AllGo}
use Rattle.core.proofs.alloc.Calls.{Goes-blank}

-- ---- a payload of which each byte is here owns what a payload with these values owns.

pub all_own : (n : ℕ) → IsOwn [] 0 n
all_own n k lo hi = ap is_own (none-out k)

written_own : (cs : List Change) (n : ℕ) → AreBytesHere cs 0 n → IsOwn cs 0 n
written_own cs n is k lo hi = ap is_own (is k lo hi)

-- with other bytes of the same number, it can be a part of the memory again
whole_again : (p : PayloadView) (ws : List ℕ) → length ws ≡ length p.bytes → CanComeBack p → CanComeBack (written_payload p.identity p.start ws p.align)
whole_again p ws long can = record {
  viewed = can.viewed;
  placed = refl;
  lies = subst (λ m. LiesIn (range_at p.start m) p.identity.home.start p.identity.home.len) (sym long) can.lies;
  first = can.first;
  owned = all_own (length ws);
  small = subst (λ m. place_in p.identity.home.view p.start + m < 2 ^ 63) (sym long) can.small;
}

-- the payload with the values of its bytes
abbrev pub with_values : PayloadView → PayloadView
with_values p = written_payload p.identity p.start p.bytes p.align

module _ {M : Type 1} {𝓤 : Ura M} (𝓛 : Logic 𝓤) where
  same_bytes : (p : Ptr) (skip : ℕ) (bs : List ℕ) (cs : List Change) (units : ℕ) → AreBytesHere cs 0 (length bs) → bytes_own p skip bs cs units ≡ bytes_own p skip bs [] units
  same_bytes (block_ptr b o) skip bs cs units is =
      let bytes = held-same 𝓛 b (kept_at cs) (kept_at []) 0 bs (skip + o) (λ j lo hi. is j lo hi ∙ sym (none-out j)) in
      let ways = ways-same 𝓛 b _ _ 0 units o (λ u. unit-all cs skip (length bs) u (written_own cs (length bs) is) ∙ sym (unit-all [] skip (length bs) u (all_own (length bs)))) in
      λ i. fsep (flt (length bs) (2 ^ 63)) (fsep (bytes i) (ways i))
  same_bytes null_ptr skip bs cs units is = refl

  pub owns_values : (n : ℕ) (p : PayloadView) → IsWritten p → ent 𝓤 (sem 𝓛 (owns_at n p)) (sem 𝓛 (owns_at n (with_values p)))
  owns_values zero p is = id⊢ 𝓤 _
  owns_values (suc n) p is =
      let same = same_bytes p.identity.home.view.base.ptr _ p.bytes p.out _ is in
      qed 𝓛 (‵ (payload_owns p) ∷ []) ∵ fpick ! (λ x. fsplit ! $
      use1 𝓛 (‵ (piece_owns (bytes_of (with_values p)))) (subst (λ (F : Fml). ent 𝓤 (sem 𝓛 (piece_owns (bytes_of p))) (sem 𝓛 F)) same (id⊢ 𝓤 _)) $ fjoin ! $
      fpack ! (ℕ × CanComeBack (with_values p)) (λ u. fsep (piece_owns (bytes_of (with_values p))) (ticket_owns p.identity.ledger u.0 (extent p.start (length p.bytes) p.align)))
      (x.0, whole_again p p.bytes refl x.1) $ done !)

-- ---- the owner of a payload with values can take its bytes out and put others of the same number back.

module _ {M : Type 1} {𝓤 : Ura M} (𝓛 : Logic 𝓤) where
  lends_some : (h : Identity) (n : ℕ) (bs : List ℕ) (align : ℕ) → ent 𝓤 (sem 𝓛 (owns_bytes h (suc n) bs align)) (sem 𝓛 (LendsBytes h (suc n) bs align))
  lends_some h n bs align =
      let addr : ℕ = suc n in let q = h.home.view.base.ptr in let place = place_in h.home.view addr in
      let units = units_in h.home.view.shift (first_place h.home) h.home.len in
      qed 𝓛 (‵ (payload_owns (written_payload h addr bs align)) ∷ []) ∵ fpick ! (λ x. fsplit ! $
      -- [the bytes and the ways of their units; the ticket]
      in_a_block ! q (λ r. bytes_own r place bs [] units) (id⊢ 𝓤 (never 𝓤)) (λ b o there. fsplit ! $ flt_l ! (λ small. fsplit ! $
      rewrite ! 0 (λ (F : Fml). ‵ F) (held-in 𝓛 b (kept_at []) 0 bs (place + o) (λ k lo hi. none-out k)) refl $
      rewrite ! 0 (λ (r : Ptr). ‵ (bytes_from r place bs)) (sym there) refl $
      frame ! $ each ! _ (λ w. assume ! (‵ (bytes_there h addr w.0)) $
      -- [the other bytes; the ways; the ticket]
      rewrite ! 0 (λ (r : Ptr). ‵ (bytes_from r place w.0)) there refl $
      rewrite ! 0 (λ (F : Fml). ‵ F) (sym (held-in 𝓛 b (kept_at []) 0 w.0 (place + o) (λ k lo hi. none-out k))) refl $
      rewrite ! 1 (λ (m : ℕ). ‵ (ways_of (own_unit [] place m) 0 units b o)) (sym w.1) refl $ fjoin ! $
      flt_i ! (length w.0) (2 ^ 63) (omega (arith, small, w.1)) $ fjoin ! $
      rewrite ! 0 (λ (r : Ptr). ‵ (bytes_own r place w.0 [] units)) (sym there) refl $
      rewrite ! 1 (λ (m : ℕ). ‵ (ticket_owns h.ledger x.0 (extent addr m align))) (sym w.1) refl $ fjoin ! $
      fpack ! (ℕ × CanComeBack (written_payload h addr w.0 align))
      (λ u. fsep (piece_owns (bytes_of (written_payload h addr w.0 align))) (ticket_owns h.ledger u.0 (extent addr (length w.0) align)))
      (x.0, whole_again (written_payload h addr bs align) w.0 w.1 x.1) $ done !))))

  pub lends : (h : Identity) (addr : ℕ) (bs : List ℕ) (align : ℕ) → addr ≢ 0 → ent 𝓤 (sem 𝓛 (owns_bytes h addr bs align)) (sem 𝓛 (LendsBytes h addr bs align))
  lends h zero bs align some = absurd (some refl)
  lends h (suc n) bs align some = lends_some h n bs align

-- ---- what a manual proof keeps of its parameters

-- nothing is had of the parameters at exit
abbrev pub dropped : {n : ℕ} (ss : List (Slot n)) (ks : Kepts ss) → Stays ss ks
dropped [] ks = tt
dropped (s ∷ ss) ks = (stay_dropped s ks.0, dropped ss ks.1)

-- and nothing is said of them
abbrev pub Blank : {n : ℕ} (ss : List (Slot n)) → Kepts ss → Type 0
Blank [] ks = Unit {0}
Blank {n} (s ∷ ss) ks = ((κs : Lfts n) (x : (s.row κs).Denot) (f : Last ((s.row κs).exit ks.0) x) → T (blank (left ((s.row κs).exit ks.0) x f))) × Blank ss ks.1

pub all_go : {M : Type 1} {𝓤 : Ura M} (𝓛 : Logic 𝓤) (n : ℕ) (ss : List (Slot n)) (ks : Kepts ss) → Blank ss ks → AllGo 𝓛 n ss ks (dropped ss ks)
all_go 𝓛 n [] ks is = tt
all_go 𝓛 n (s ∷ ss) ks is = (Goes-blank 𝓛 n s ks.0 is.0, all_go 𝓛 n ss ks.1 is.1)

-- ---- a struct of one number

abbrev pub addr_val : ℕ → Val
addr_val n = vstruct (vcons (vint w64 n) vnil)

abbrev pub addr_own : ℕ → List Val → Fml
addr_own n = (plainly (usize ∷ [])).own_val (n, tt)

pub addr_told : (n : ℕ) (vs : List Val) → shadow (addr_own n vs) → n < 2 ^ 64
addr_told n vs s = s.1.1.0.1

pub addr_made : {M : Type 1} {𝓤 : Ura M} (𝓛 : Logic 𝓤) (n : ℕ) → n < 2 ^ 64 → ent 𝓤 (emp 𝓤) (sem 𝓛 (addr_own n (addr_val n ∷ [])))
addr_made 𝓛 n f = makes_shadow 𝓛 (addr_own n (addr_val n ∷ [])) (λ _. (tt, ((tt, tt), tt))) ((vint w64 n ∷ [], tt), (refl, ((refl, f), tt)))

pub addr_typed : (n : ℕ) → n < 2 ^ 64 → Good (ty_struct [] (tcons (ty_int w64) tnil)) (addr_val n)
addr_typed n f = (tt, (record { fits = f }, tt))

-- a payload by its address is its address
abbrev pub payload_vals : (thin.the_row).Denot → List Val
payload_vals d = addr_val d.addr ∷ []

pub payload_Tells : Tells thin.the_row (Is thin.the_row) payload_vals
payload_Tells = lowers.val_is

-- a number that isn't 0 is one more than another
pub one_more_than : (n : ℕ) → n ≢ 0 → (k : ℕ) × (n ≡ suc k)
one_more_than zero some = absurd (some refl)
one_more_than (suc k) some = (k, refl)

-- ---- a loan by its address is its address.

abbrev pub loan_vals : (loan.the_row).Denot → List Val
loan_vals d = addr_val d.addr ∷ []

pub loan_Tells : Tells loan.the_row (Is loan.the_row) loan_vals
loan_Tells = loan_lowers.val_is

-- ---- a ticket shows a live entry of its ledger, and both stay.

pub shows_live : {M : Type 1} {𝓤 : Ura M} (𝓛 : Logic 𝓤) (δ : ℕ) (es : List Entry) (i : ℕ) (v : Extent)
    → ent 𝓤 (sep 𝓤 (sem 𝓛 (ledger_owns δ 0 es)) (sem 𝓛 (ticket_owns δ i v)))
    (guard 𝓤 (IsIssued es i v) (sep 𝓤 (sem 𝓛 (ledger_owns δ 0 es)) (sem 𝓛 (ticket_owns δ i v))))
shows_live {𝓤 = 𝓤} 𝓛 δ es i v =
    let P : SProp 𝓤 = sep 𝓤 (sem 𝓛 (ledger_owns δ 0 es)) (sem 𝓛 (ticket_owns δ i v)) in
    let Z : SProp 𝓤 = sem 𝓛 (ledger_owns δ 0 (set es i (entry_of v false))) in
    fact_use 𝓤 (IsIssued es i v)
    (via 𝓤 (guard 𝓤 (IsIssued es i v) Z) (redeems 𝓛 δ es 0 i i v (omega arith)) (guard_e 𝓤 (IsIssued es i v) Z (λ is. fact_i 𝓤 (IsIssued es i v) Z is)))
    (λ is. guard_i 𝓤 (IsIssued es i v) P is)
