-- A core after a call.
use Rattle.std.proofs.Common.{◌≡◌, ℕ, ◌+◌, ◌-◌, ◌≤◌, arith, sym, ◌∙◌, ap, subst}
use Rattle.rlsf_base.proofs.Lending.Present.{out-same, own-same}
use Rattle.rlsf_base.specs.OpenSpace.{SameOwn, StaysHere}
use Rattle.rlsf_model_sizes.specs.SizeClass.{IsValid}
use Rattle.rlsf_base.specs.Space.{Space}
use Rattle.rlsf_model.specs.State.{State}
use Rattle.rlsf_table.specs.Counts.{Costs, Counts}
use Rattle.rlsf_table.specs.Table.{Table}
use Rattle.rlsf_table.proofs.Costs.{Costs-counted, Costs-then, Costs-within}
use Rattle.rlsf_blocks.specs.Laws.{read_from}
use Rattle.rlsf_blocks.specs.StandsFor.{contents, StandsFor}
use Rattle.rlsf_blocks.specs.Spare.{KeepsSpare}
use Rattle.rlsf_blocks.proofs.RepresentedStates.Counted.{KeepsSpare-counted, KeepsSpare-counted_first, StandsFor-counted}
use Rattle.rlsf_tlsf.specs.Cores.{IsCore, LeavesCore, LeavesCoreCopying}
use Rattle.rlsf_tlsf.specs.Steps.Moves.{bare}
use Rattle.rlsf_tlsf.proofs.Arrivals.{arrived, bare-read_from}
use Rattle.rlsf_tlsf.proofs.Moved.{bare-bare}

-- what is kept of the state is the state without bytes
pub bare-core : {fllen sllen : ℕ} {m : Space} {x : Table} {s : State} → IsCore fllen sllen m x s → bare (read_from m s) ≡ s
bare-core {m = m} {s = s} are = bare-read_from m s ∙ are.is_bare

module _ {fllen sllen : ℕ} {n : Space} {x : Table} {t : State} (v : StandsFor fllen sllen (contents n x) t) (reached : State) (e : reached ≡ bare t) where
  pub IsCore-arrived : IsValid 128 128 fllen sllen → IsCore fllen sllen n x reached
  IsCore-arrived valid = record {
    valid = valid;
    stands = subst (StandsFor fllen sllen (contents n x)) (sym (arrived v reached e)) v;
    is_bare = ap bare e ∙ bare-bare t ∙ sym e;
  }

  -- what is true of the state that was reached is true of the one that is read
  pub reads : (P : State → Type 0) → P t → P (read_from n reached)
  reads P = subst P (sym (arrived v reached e))

  -- so this is what a call leaves that led to it
  pub LeavesCore-arrived : {m : Space} {j : State} {most copies : ℕ} → IsValid 128 128 fllen sllen → KeepsSpare m (read_from m j) n t → Costs m n most copies → SameOwn m n
      → StaysHere m n → LeavesCoreCopying fllen sllen m n x j reached most copies
  LeavesCore-arrived {m} {j} valid spare costs own here =
      record { core = IsCore-arrived valid; spare = reads (KeepsSpare m (read_from m j) n) spare; costs = costs; own = own; here = here }

-- a larger bound
pub LeavesCore-within : {fllen sllen : ℕ} {m n : Space} {x : Table} {j k : State} {a b c d : ℕ} → a ≤ b → c ≡ d → LeavesCoreCopying fllen sllen m n x j k a c
    → LeavesCoreCopying fllen sllen m n x j k b d
LeavesCore-within {m = m} {n = n} {b = b} within same left =
    record { core = left.core; spare = left.spare; costs = subst (Costs m n b) same (Costs-within within left.costs); own = left.own; here = left.here }

-- memories with the same start and the same bytes have the same state
pub read_from-same : (m n : Space) (s : State) → n.start ≡ m.start → n.bytes ≡ m.bytes → read_from n s ≡ read_from m s
read_from-same m n s start bytes = grind arith

-- ---- words were read

module _ {m n : Space} {some : ℕ} (counts : Counts m n some) where
  pub read_from-counted : (s : State) → read_from n s ≡ read_from m s
  read_from-counted s = read_from-same m n s counts.start counts.bytes

  module _ {fllen sllen : ℕ} where
    pub IsCore-counted : {x : Table} {s : State} → IsCore fllen sllen m x s → IsCore fllen sllen n x s
    IsCore-counted {x} {s} are = record {
      valid = are.valid;
      stands = subst (StandsFor fllen sllen (contents n x)) (sym (read_from-counted s)) (StandsFor-counted m n counts.start counts.bytes counts.out are.stands);
      is_bare = are.is_bare;
    }

    -- that is all that a call did
    pub LeavesCore-counted : {x y : Table} {j k : State} → y ≡ x → k ≡ j → IsCore fllen sllen m x j → LeavesCore fllen sllen m n y j k some
    LeavesCore-counted {x} {y} {j} {k} table state are = record {
      core = subst (λ (o : Table × State). IsCore fllen sllen n o.0 o.1) (λ i. (sym table i, sym state i)) (IsCore-counted are);
      spare = KeepsSpare-counted m n counts.start counts.bytes counts.out (read_from m j) (read_from n k);
      costs = Costs-counted counts;
      own = own-same m n counts.start counts.out;
      here = λ a inside is. out-same m n a counts.start counts.out ∙ is;
    }

    -- or all that was done before a call
    pub LeavesCore-counted_first : {o : Space} {y : Table} {j k : State} {most copies : ℕ} → LeavesCoreCopying fllen sllen n o y j k most copies
        → LeavesCoreCopying fllen sllen m o y j k (some + most) copies
    LeavesCore-counted_first {o} {j = j} {k = k} {most = most} {copies = copies} left = record {
      core = left.core;
      spare =
          KeepsSpare-counted_first m n counts.start counts.bytes counts.out (read_from m j) (read_from o k) o
          (subst (λ (s : State). KeepsSpare n s o (read_from o k)) (read_from-counted j) left.spare);
      costs = let same : 0 + copies ≡ copies = omega arith in subst (Costs m o (some + most)) same (Costs-then (Costs-counted counts) left.costs);
      own = λ a inside. left.own a (omega (arith, inside, counts.start)) ∙ own-same m n counts.start counts.out a inside;
      here = λ a inside is. left.here a (omega (arith, inside, counts.start)) (out-same m n a counts.start counts.out ∙ is);
    }

    -- before one that copied bytes, and led to the state
    pub LeavesCore-moved : {o : Space} {y : Table} {j t : State} {most : ℕ} → StandsFor fllen sllen (contents o y) t → (k : State) → k ≡ bare t → IsValid 128 128 fllen sllen
        → KeepsSpare n (read_from m j) o t → Costs n o most (o.copied - n.copied) → SameOwn n o → StaysHere n o
        → LeavesCoreCopying fllen sllen m o y j k (some + most) (o.copied - m.copied)
    LeavesCore-moved {o} {j = j} {t = t} now k kept valid spare costs own here =
        let still : KeepsSpare n (read_from n j) o t = subst (λ (s : State). KeepsSpare n s o t) (sym (read_from-counted j)) spare in
        LeavesCore-within (omega arith) (omega (arith, counts.copied)) (LeavesCore-counted_first (LeavesCore-arrived now k kept valid still costs own here))
