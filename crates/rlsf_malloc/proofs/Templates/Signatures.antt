-- The signatures of exports with numbers after their handle, and what the calls are passed beside the heap.
use Rattle.rlsf_malloc_calls.proofs.Walking.{ℕ, List, [], ◌∷◌, w64, yes, RawPtr, plain, usize, RattleType, Ended, Stays, stay_dropped}
use Rattle.rlsf_malloc_calls.proofs.Walking.{local, value_local, ty_int, copy, place}
use Prim.Native.Nat.{zero, suc, ◌+◌}
use contract.Lifetimes.{Lfts}
use denote.RattleType.{Denots}
use denote.Signature.{Slot, types_at}
use denote.Triple.End.{Kepts}
use mir.Syntax.{Local, Opd}

-- n numbers
abbrev pub numbers : (m n : ℕ) → List (Slot m)
numbers m zero = []
numbers m (suc n) = plain (λ κs. usize) ∷ numbers m n

abbrev pub kept : (m n : ℕ) → Kepts (numbers m n)
kept m zero = tt
kept m (suc n) = (yes, kept m n)

abbrev stayed_numbers : (m n : ℕ) → Stays (numbers m n) (kept m n)
stayed_numbers m zero = tt
stayed_numbers m (suc n) = (stay_dropped _ yes, stayed_numbers m n)

-- what is read of them
abbrev pub Numbers : ℕ → Type 0
Numbers zero = Unit {0}
Numbers (suc n) = ℕ × Numbers n

abbrev pub read : (m n : ℕ) (κs : Lfts m) → Denots (types_at (numbers m n) κs) → Numbers n
read m zero κs a = tt
read m (suc n) κs a = (a.0, read m n κs a.1)

-- their locals, and those from i on as arguments
abbrev pub words : ℕ → List Local → List Local
words zero ls = ls
words (suc n) ls = local (ty_int w64) value_local ∷ words n ls

abbrev pub copies : ℕ → ℕ → List Opd
copies i zero = []
copies i (suc n) = copy (place i []) ∷ copies (i + 1) n

-- a handle and n numbers, and a result of the type A
abbrev pub exported : ℕ → RattleType → Ended
exported n A = record {
  signature = record { lifetimes = 0; outlives = []; params = plain (λ κs. RawPtr) ∷ numbers 0 n; result = plain (λ κs. A) };
  kept = (yes, kept 0 n);
}

abbrev pub stayed : (n : ℕ) (A : RattleType) → Stays (exported n A).signature.params (exported n A).kept
stayed n A = (stay_dropped _ yes, stayed_numbers 0 n)

-- a number, a payload, and n numbers
abbrev pub number_and : ℕ → RattleType → List (Slot 5)
number_and n Q = plain (λ κs. usize) ∷ plain (λ κs. Q) ∷ numbers 5 n

abbrev pub kept_and : (n : ℕ) (Q : RattleType) → Kepts (number_and n Q)
kept_and n Q = (yes, (yes, kept 5 n))
