-- What a part owned is that part again.
use Rattle.std.proofs.Common.{◌≡◌, ℕ, ◌+◌, ◌%◌, ◌^◌, ◌<◌, [], List, length, arith, sym, ap, ◌∙◌}
use Rattle.rlsf_base.specs.Changes.{IsOwn}
use Rattle.rlsf_base.specs.Out.{is_own, kept_at}
use Rattle.rlsf_base.specs.OpenSpace.{place_in}
use Rattle.rlsf_base.specs.Piece.{CanCome, HasPartBytes, IsPiece, IsPieceOf, Piece, first_place, home_from, piece_range}
use Rattle.rlsf_base.specs.RawParts.{TakesParts}
use Rattle.rlsf_base.specs.Steps.Block.{IsMemory, memory_of}
use Rattle.rlsf_base.specs.Steps.Owners.{Becomes, OwnsValues}
use Rattle.rlsf_base.specs.Steps.Ownership.{units_in}
use Rattle.rlsf_base.specs.declared.memory.block.Base.{Base}
use Rattle.rlsf_base.specs.declared.memory.block.Bytes.{Bytes}
use Rattle.rlsf_base.specs.declared.memory.range.Range.{Range}
use Rattle.rlsf_base.specs.declared.memory.view.View.{View}
use Rattle.rlsf_base.specs.declared.memory.zeroed.Supplier.{Supplier}
use Rattle.rlsf_base.proofs.Changes.{none-out}

-- the owner of what a part owns
abbrev pub IsOwnerOf : Piece → Bytes → Type 0
IsOwnerOf p e =
    OwnsValues e p.home.view.base.ptr (place_in p.home.view p.start) p.bytes p.out (units_in p.home.view.shift (first_place p.home) p.home.len)
    × (e.of ≡ (first_place p.home, p.home.len))

module _ (p : Piece) (view : View) (range : Range) (can : CanCome p view range) (e : Bytes) (is : IsOwnerOf p e) where
  pub is_piece : IsPiece view range e
  is_piece = grind arith

  pub same_piece : (q : Piece) → IsPieceOf view range e q → q ≡ p
  same_piece q made =
      made ∙ (λ i. record { home = home_from (sym can.viewed i) (is.1 i); start = (sym can.placed i).start; bytes = is.0.2 i; out = is.0.3 i })
      ∙ (λ i. record { home = record { start = sym can.first.1 i; len = p.home.len; view = p.home.view }; start = p.start; bytes = p.bytes; out = p.out })

-- and the owner has the bytes of that part
pub has_bytes : (p : Piece) → CanCome p p.home.view (piece_range p) → (e : Bytes) → IsOwnerOf p e → HasPartBytes p e
has_bytes p can e is = grind (arith, is_piece)

-- and can be made one again
pub can_come : (p : Piece) (e : Bytes) → IsPiece p.home.view (piece_range p) e → home_from p.home.view e.of ≡ p.home → e.bytes ≡ p.bytes → e.out ≡ p.out
    → CanCome p p.home.view (piece_range p)
can_come p e is home bytes out = grind arith

-- so can what a part at a memory's addresses owned
pub takes_parts : {base : Base} {shift len_and_skip : ℕ} {bytes : Bytes} {supplier : Supplier} → IsMemory base shift len_and_skip bytes supplier → shift < 2 ^ 64
    → (touches copied : ℕ) → TakesParts (memory_of base shift len_and_skip bytes touches copied)
takes_parts {base} {shift} {len_and_skip} {bytes} is fits touches copied p r home placed lies own = grind arith

-- the bytes of a part can be filled, at their place in the block
pub can_fill : {view : View} {range : Range} {b : Bytes} {place : ℕ} → IsPiece view range b → place ≡ (view.shift + range.start) % 2 ^ 64
    → (view.base.ptr ≡ b.at) × (b.skip ≡ place) × (length b.bytes ≡ range.len) × IsOwn b.out 0 range.len × (place + range.len < 2 ^ 63)
can_fill is at = grind arith

-- and once they are, they are a part's
pub filled : {view : View} {range : Range} {b n : Bytes} {values : List ℕ} → IsPiece view range b → Becomes b n values [] → length values ≡ range.len → IsPiece view range n
filled {view} is e long = record {
  lies = (
    omega (arith, is.lies, ap (λ (u : ℕ × ℕ). u.0) e.0.4, ap (λ (u : ℕ × ℕ). u.1) e.0.4),
    omega (arith, is.lies, ap (λ (u : ℕ × ℕ). u.0) e.0.4, ap (λ (u : ℕ × ℕ). u.1) e.0.4),
  );
  first = omega (arith, is.first, ap (λ (u : ℕ × ℕ). u.0) e.0.4);
  place = (is.place.0 ∙ sym e.0.0, e.0.1 ∙ is.place.1, e.0.3 ∙ is.place.2 ∙ (λ i. units_in view.shift (sym e.0.4 i).0 (sym e.0.4 i).1));
  whole = (ap length e.0.2 ∙ long, λ k lo hi. ap (λ cs. is_own (kept_at cs k)) e.1 ∙ ap is_own (none-out k));
  small = omega (arith, is.small, e.0.1);
}
