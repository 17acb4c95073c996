-- By what a step of the heap can be refused.
use Rattle.std.proofs.Common.{arith, ◌≡◌, ℕ, inl, inr, Bool, true, false, List, [], ◌∷◌, Option, Some, None, Result, Ok, Err, OnErr, refl, subst, sym}
use Rattle.rlsf_base.specs.declared.memory.layout.Layout.{Layout}
use Rattle.rlsf_global.specs.Refusals.{RefusesOnlyBy}
use Rattle.rlsf_model_global.specs.declared.error.GlobalError.{GlobalError}
use Rattle.rlsf_model_global.specs.declared.error.GlobalError.TheVariants.{JournalMemory, NoRoom, OutOfRange, TableMemory, UnknownAddress, WrongLayout}
use Rattle.rlsf_model_global.specs.Heap.{Heap}
use Rattle.rlsf_model_global.specs.Moves.{HeapMovesAway, ReallocatesAsAt, ReallocatesAt, ReallocatesThereAt, ReallocatesTo, HeapResizesThere}
use Rattle.rlsf_model_global.specs.Rows.{Row}
use Rattle.rlsf_model_global.specs.Steps.{DeallocatesAsAt, DeallocatesAt, Done, HeapAllocates, Placed, ReadsAt, UsableAt, WritesAt}
use Rattle.rlsf_blocks.proofs.Refused.{err_always}

-- a known answer is refused by what it is
same : {A : Type 0} (errors : List GlobalError) (r s : Result A GlobalError) → r ≡ s → RefusesOnlyBy errors s → RefusesOnlyBy errors r
same errors r s e by = subst (λ x. RefusesOnlyBy errors x) (sym e) by

pub allocates_refuses : (h g : Heap) (layout : Layout) (r : Placed) → HeapAllocates h layout r g → RefusesOnlyBy (NoRoom ∷ TableMemory ∷ []) r
allocates_refuses h g layout (Ok addr) step = tt
allocates_refuses h g layout (Err NoRoom) step = inl refl
allocates_refuses h g layout (Err TableMemory) step = inr (inl refl)
allocates_refuses h g layout (Err UnknownAddress) step = absurd step
allocates_refuses h g layout (Err WrongLayout) step = absurd step
allocates_refuses h g layout (Err OutOfRange) step = absurd step
allocates_refuses h g layout (Err JournalMemory) step = absurd step

pub deallocates_refuses : (h g : Heap) (addr : ℕ) (row : Option Row) (r : Done) → DeallocatesAt h addr row r g → RefusesOnlyBy (UnknownAddress ∷ []) r
deallocates_refuses h g addr None r step = same (UnknownAddress ∷ []) r _ step.0 (inl refl)
deallocates_refuses h g addr (Some row) r step = same (UnknownAddress ∷ []) r _ step.0 tt

pub deallocates_as_refuses : (h g : Heap) (addr : ℕ) (layout : Layout) (row : Option Row) (r : Done) → DeallocatesAsAt h addr layout row r g
    → RefusesOnlyBy (UnknownAddress ∷ WrongLayout ∷ []) r
deallocates_as_refuses h g addr layout row r step = grind arith

pub reads_refuses : (h : Heap) (addr offset : ℕ) (lent : List ℕ) (row : Option Row) (r : Done) (left : List ℕ) → ReadsAt h addr offset lent row r left
    → RefusesOnlyBy (UnknownAddress ∷ OutOfRange ∷ []) r
reads_refuses h addr offset lent row r left step = grind arith

-- a refused read leaves what was lent
pub refused_read_leaves : (h : Heap) (addr offset : ℕ) (lent : List ℕ) (row : Option Row) (r : Done) (left : List ℕ) → ReadsAt h addr offset lent row r left
    → OnErr r (left ≡ lent)
refused_read_leaves h addr offset lent row r left step = grind (arith, err_always)

pub writes_refuses : (h g : Heap) (addr offset : ℕ) (bytes : List ℕ) (row : Option Row) (r : Done) → WritesAt h addr offset bytes row r g
    → RefusesOnlyBy (UnknownAddress ∷ OutOfRange ∷ []) r
writes_refuses h g addr offset bytes row r step = grind arith

pub usable_refuses : (h : Heap) (addr : ℕ) (row : Option Row) (r : Result ℕ GlobalError) → UsableAt h addr row r → RefusesOnlyBy (UnknownAddress ∷ []) r
usable_refuses h addr None r step = same (UnknownAddress ∷ []) r _ step (inl refl)
usable_refuses h addr (Some row) r step = same (UnknownAddress ∷ []) r _ step tt

moves_refuses : (h g : Heap) (addr keep : ℕ) (wanted : Layout) (r : Placed) → HeapMovesAway h addr keep wanted r g → RefusesOnlyBy (UnknownAddress ∷ NoRoom ∷ []) r
moves_refuses h g addr keep wanted r step = grind arith

pub reallocates_refuses : (h g : Heap) (addr : ℕ) (wanted : Layout) (row : Option Row) (r : Placed) → ReallocatesAt h addr wanted row r g
    → RefusesOnlyBy (UnknownAddress ∷ NoRoom ∷ []) r
reallocates_refuses h g addr wanted None r step = same (UnknownAddress ∷ NoRoom ∷ []) r _ step.0 (inl refl)
reallocates_refuses h g addr wanted (Some row) r step = moves_refuses h g addr _ wanted r step

-- with one more reason
more : (r : Placed) → RefusesOnlyBy (UnknownAddress ∷ NoRoom ∷ []) r → RefusesOnlyBy (UnknownAddress ∷ WrongLayout ∷ NoRoom ∷ []) r
more r by = grind arith

resizes_refuses : (h g : Heap) (addr : ℕ) (wanted : Layout) (r : Placed) → ReallocatesTo true h addr wanted wanted r g
    → RefusesOnlyBy (UnknownAddress ∷ WrongLayout ∷ NoRoom ∷ []) r
resizes_refuses h g addr wanted r step = grind arith

to_refuses : (enabled : Bool) (h g : Heap) (addr : ℕ) (old wanted : Layout) (r : Placed) → ReallocatesTo enabled h addr old wanted r g
    → RefusesOnlyBy (UnknownAddress ∷ WrongLayout ∷ NoRoom ∷ []) r
to_refuses true h g addr old wanted r step = resizes_refuses h g addr wanted r step
to_refuses false h g addr old wanted r step = more r (moves_refuses h g addr _ wanted r step)

pub reallocates_as_refuses : (enabled : Bool) (h g : Heap) (addr : ℕ) (layout : Layout) (size : ℕ) (row : Option Row) (r : Placed)
    → ReallocatesAsAt enabled h addr layout size row r g
    → RefusesOnlyBy (UnknownAddress ∷ WrongLayout ∷ NoRoom ∷ []) r
reallocates_as_refuses enabled h g addr layout size row r step = grind (arith, to_refuses)

there_refuses : (h g : Heap) (addr : ℕ) (wanted : Layout) (r : Placed) → HeapResizesThere h addr wanted r g → RefusesOnlyBy (UnknownAddress ∷ WrongLayout ∷ NoRoom ∷ []) r
there_refuses h g addr wanted r step = grind arith

pub reallocates_there_refuses : (h g : Heap) (addr : ℕ) (layout : Layout) (size : ℕ) (row : Option Row) (r : Placed) → ReallocatesThereAt h addr layout size row r g
    → RefusesOnlyBy (UnknownAddress ∷ WrongLayout ∷ NoRoom ∷ []) r
reallocates_there_refuses h g addr layout size row r step = grind (arith, there_refuses)
