-- The exports that take a payload from their caller, for each kind of heaps: what each does to a heap and a payload.
use Rattle.std.proofs.Common.{◌≡◌, ◌≢◌, ℕ, ◌≤◌, refl, sym, subst}
use Rattle.rlsf_heap.specs.Heap.{HeapView, PayloadView}
use Rattle.rlsf_heap.specs.Thin.{owns_reply}
use Rattle.rlsf_heap.specs.contracts.thin.ThinPayload as thin
use Rattle.rlsf_base.specs.Piece.{Piece}
use Rattle.rlsf_heap.specs.Loans.{owns_loan}
use Rattle.rlsf_heap.specs.contracts.loan.Loan as loan
use Rattle.rlsf_malloc_calls.specs.contracts.replies.Lending as lending
use Rattle.rlsf_malloc_calls.specs.Calls.{AddsLent, AppendsLent, CanAppend, CanLend, CanRemove, Frees, IsPayloadAt, IsReady, IsUsableSize, RemovesLent, aligned_for}
use Rattle.rlsf_malloc_calls.specs.Replies.{reply_number}
use Rattle.rlsf_malloc_calls.specs.Resizing.{ResizesAligned, ResizesAny, ResizesInPlace}
use Rattle.rlsf_malloc_calls.specs.contracts.replies.Reply as reply
use Rattle.rlsf_malloc.proofs.HeapKinds.{Kind, row}
use Rattle.rlsf_malloc.proofs.Steps.{Payloads}
use Rattle.rlsf_malloc.proofs.Templates.Signatures.{Numbers}
use Rattle.rlsf_malloc.proofs.Templates.Takes.{Export as Takes}
use Rattle.rlsf_malloc.proofs.Templates.Trades.{Export as Trades}

abbrev pub payloads : Payloads
payloads = record { Q = thin.the_row; D = PayloadView; owns = owns_reply; Makes = λ x d q. (q.addr ≡ x) × (q.of ≡ d) }

abbrev pub loans : Payloads
loans = record { Q = loan.the_row; D = Piece; owns = owns_loan; Makes = λ x d q. (q.addr ≡ x) × (q.of ≡ d) }

-- the payload at an address, whose alignment P is true of
abbrev IsAtSuch : (ℕ → Type 0) → HeapView → ℕ → PayloadView → Type 0
IsAtSuch P v x d = IsPayloadAt v x d × (x ≢ 0 → P d.align)

-- a call may be made with the payload q, which has the address x
abbrev CanResize : (ℕ → Type 0) → HeapView → ℕ → thin.the_row.Denot → Type 0
CanResize P v x q = IsReady v × IsPayloadAt v x q.of × (q.addr ≡ x) × (x ≢ 0 → P q.of.align)

pub can_resize : (P : ℕ → Type 0) (v : HeapView) (d : PayloadView) (x : ℕ) (q : thin.the_row.Denot) → IsReady v → IsAtSuch P v x d → payloads.Makes x d q → CanResize P v x q
can_resize P v d x q ready known made =
    (ready, subst (λ (p : PayloadView). IsPayloadAt v x p) (sym made.1) known.0, made.0, λ some. subst (λ (p : PayloadView). P p.align) (sym made.1) (known.1 some))

module _ (K : Kind) where
  abbrev pub frees : Takes (row K) payloads
  frees = record {
    S = λ v. IsReady v;
    Fact = λ v d x. IsPayloadAt v x d;
    Asks = λ v x q. IsReady v × IsPayloadAt v x q.of;
    Post = λ v x q w. Frees v x q.of w;
    Outer = λ v d x w. Frees v x d w;
    asks = λ v d x q ready known made. (ready, subst (λ (p : PayloadView). IsPayloadAt v x p) (sym made.1) known);
    packs = λ v d x q w ready known made did. subst (λ (p : PayloadView). Frees v x p w) made.1 did;
  }

  abbrev pub measures : Trades 0 (row K) payloads
  measures = record {
    S = λ v. IsReady v;
    Z = reply.the_row;
    num = λ z. z.number;
    gives = λ z. owns_reply z.payload.of;
    Fact = λ v d x ns. IsPayloadAt v x d;
    Asks = λ v x q ns. IsReady v × IsPayloadAt v x q.of;
    Post = λ v x q ns z w. IsUsableSize v x q.of z.number z.payload.of w;
    Outer = λ v d x ns r w p. IsUsableSize v x d r p w;
    asks = λ v d x ns q ready known made. (ready, subst (λ (p : PayloadView). IsPayloadAt v x p) (sym made.1) known);
    packs = λ v d x ns q z w ready known made did. (z.payload.of, subst (λ (p : PayloadView). IsUsableSize v x p z.number z.payload.of w) made.1 did, refl);
  }

  -- a reallocation of a payload: `Such` says which alignments it may have, and `Did` what is done
  abbrev resizes : (n : ℕ) → (Numbers n → ℕ → Type 0) → (HeapView → ℕ → PayloadView → Numbers n → ℕ → PayloadView → HeapView → Type 0) → Trades n (row K) payloads
  resizes n Such Did = record {
    S = λ v. IsReady v;
    Z = reply.the_row;
    num = λ z. reply_number z;
    gives = λ z. owns_reply z.payload.of;
    Fact = λ v d x ns. IsAtSuch (Such ns) v x d;
    Asks = λ v x q ns. CanResize (Such ns) v x q;
    Post = λ v x q ns z w. Did v x q.of ns (reply_number z) z.payload.of w;
    Outer = λ v d x ns r w p. Did v x d ns r p w;
    asks = λ v d x ns q ready known made. can_resize (Such ns) v d x q ready known made;
    packs = λ v d x ns q z w ready known made did. (z.payload.of, subst (λ (p : PayloadView). Did v x p ns (reply_number z) z.payload.of w) made.1 did, refl);
  }

  abbrev pub reallocates : Trades 1 (row K) payloads
  reallocates = resizes 1 (λ ns align. 16 ≤ align) (λ v x p ns. ResizesAny K.classes v x p ns.0)

  abbrev pub reallocates_in_place : Trades 1 (row K) payloads
  reallocates_in_place = resizes 1 (λ ns align. 16 ≤ align) (λ v x p ns. ResizesInPlace v x p ns.0)

  abbrev pub reallocates_aligned : Trades 2 (row K) payloads
  reallocates_aligned = resizes 2 (λ ns align. align ≡ aligned_for ns.1.0) (λ v x p ns. ResizesAligned K.classes v x p ns.0 ns.1.0)

  -- what lends bytes to a heap, or asks for them: `Can` says when a call may be made, and `Did` what it does
  abbrev lends : (HeapView → ℕ → ℕ → Piece → Type 0) → (HeapView → ℕ → ℕ → ℕ → Piece → HeapView → Type 0) → Trades 1 (row K) loans
  lends Can Did = record {
    S = λ v. IsReady v;
    Z = lending.the_row;
    num = λ z. z.number;
    gives = λ z. owns_loan z.loan.of;
    Fact = λ v d x ns. Can v x ns.0 d;
    Asks = λ v x q ns. IsReady v × Can v x ns.0 q.of;
    Post = λ v x q ns z w. Did v x ns.0 z.number z.loan.of w;
    Outer = λ v d x ns r w p. Did v x ns.0 r p w;
    asks = λ v d x ns q ready known made. (ready, subst (λ (p : Piece). Can v x ns.0 p) (sym made.1) known);
    packs = λ v d x ns q z w ready known made did. (z.loan.of, did, refl);
  }

  abbrev pub adds : Trades 1 (row K) loans
  adds = lends CanLend (AddsLent K.rows)

  abbrev pub appends : Trades 1 (row K) loans
  appends = lends CanAppend (AppendsLent K.rows)

  abbrev pub removes : Trades 1 (row K) loans
  removes = lends CanRemove RemovesLent
