-- What is done with a part of a memory is done with the complete memory, if the part has each range that the ops name in it.
use Rattle.std.proofs.Common.{◌≡◌, ℕ, ◌+◌, ◌<◌, ◌≤◌, length, List, [], ◌∷◌, slice_index_or, arith, refl, ◌∙◌, ap, subst, suc, inl, inr}
use Rattle.std.proofs.lemmas.Bool.{cases_lt}
use Rattle.rlsf_base.specs.declared.memory.range.Range.{Range}
use Rattle.rlsf_base.specs.Range.{end_of, LiesIn}
use Rattle.rlsf_model.specs.Insert.{IsVacant}
use Rattle.rlsf_trace_text.specs.declared.op.Answer.{Answer}
use Rattle.rlsf_trace_text.specs.declared.op.Answer.TheVariants.{Inserted, Appended, Block, Refused}
use Rattle.rlsf_trace_text.specs.declared.op.Op.{Op}
use Rattle.rlsf_trace_text.specs.declared.op.Op.TheVariants.{Insert, Append, Block as OpBlock}
use Rattle.rlsf_trace_text.specs.declared.op.TraceError.{TraceError}
use Rattle.rlsf_trace_text.specs.declared.op.TraceError.TheVariants.{BadRange}
use Rattle.rlsf_trace_runs.specs.Runs.{Does, IsOpRefused, RunsOps, RunState}
use Rattle.rlsf_trace_runs.specs.Parts.{CoversOp, HasRange, HasRanges}

-- the part from the first address to the last of what was met has each range
pub HasRanges-all : (memory : Range) (first end : ℕ) (ops : List Op) → ((k : ℕ) → k < length ops → (d : Op) → CoversOp memory first end (slice_index_or ops k d))
    → (part : Range) → (part.start ≡ first) × (end ≤ end_of part) → HasRanges memory part ops
HasRanges-all memory first end [] covers part is = tt
HasRanges-all memory first end (op ∷ ops) covers part is = (
  λ r named inside. let (low, high) = covers 0 (omega arith) op r named inside in (omega (arith, low, is), omega (arith, high, is)),
  HasRanges-all memory first end ops (λ k below d. covers (suc k) (omega (arith, below)) d) part is,
)

-- one op more is covered, by addresses that cover no less
pub covers-more : (memory : Range) (ops : List Op) {done first end lower higher : ℕ}
    → ((k : ℕ) → k < done → (d : Op) → CoversOp memory first end (slice_index_or ops k d)) → (lower ≤ first) × (end ≤ higher)
    → (op : Op) → ((d : Op) → op ≡ slice_index_or ops done d) → CoversOp memory lower higher op
    → (k : ℕ) → k < done + 1 → (d : Op) → CoversOp memory lower higher (slice_index_or ops k d)
covers-more memory ops {done} {lower = lower} {higher = higher} covers wider op is last k below d = elim (cases_lt k done) [
  | inl before ↦ λ r named inside. let (low, high) = covers k before d r named inside in (omega (arith, low, wider), omega (arith, high, wider))
  | inr past ↦
      let same : done ≡ k = omega (arith, past, below) in
      subst (CoversOp memory lower higher) (is d ∙ ap (λ i. slice_index_or ops i d) same) last
]

module _ (memory part : Range) (inside : LiesIn part memory.start memory.len) where
  -- a range that may be inserted
  vacant : {pools : List Range} {r : Range} → IsVacant part pools r → IsVacant memory pools r
  vacant may = record { lies_in = (omega (arith, inside, may.lies_in), omega (arith, inside, may.lies_in)); apart = may.apart }

  vacant-back : {pools : List Range} {r : Range} → (LiesIn r memory.start memory.len → LiesIn r part.start part.len) → IsVacant memory pools r → IsVacant part pools r
  vacant-back has may = record { lies_in = has may.lies_in; apart = may.apart }

  -- a refusal
  refused : (s : RunState) (op : Op) (error : TraceError) → HasRange memory part op → IsOpRefused part s op error → IsOpRefused memory s op error
  refused s (Insert r) BadRange has never = λ may. never (vacant-back (has r refl) may)
  refused s (Append r) BadRange has never = λ may. never (record { vacant = vacant-back (has r refl) may.vacant; pool = may.pool; is_pool = may.is_pool; ends = may.ends })
  refused s (OpBlock r index) BadRange has never = λ may.
      never (record { lies_in = has r refl may.lies_in; pool = may.pool; is_pool = may.is_pool; begins = may.begins; ends = may.ends })
  refused s op error has why = why

  -- an op
  pub done : (fllen sllen : ℕ) (s : RunState) (op : Op) (answer : Answer) (t : RunState) → HasRange memory part op → Does fllen sllen part s op answer t
      → Does fllen sllen memory s op answer t
  done fllen sllen s (Insert r) (Refused error) t has (why, is) = (refused s (Insert r) error has why, is)
  done fllen sllen s op (Refused error) t has (why, is) = (refused s op error has why, is)
  done fllen sllen s (Insert r) (Inserted len) t has (may, machine, step, is) = (vacant may, machine, step, is)
  done fllen sllen s (Append r) (Appended more) t has (may, machine, step, is) =
      (record { vacant = vacant may.vacant; pool = may.pool; is_pool = may.is_pool; ends = may.ends }, machine, step, is)
  done fllen sllen s (OpBlock r index) (Block block) t has (may, bs, are, told, is) =
      let lies : LiesIn r memory.start memory.len = (omega (arith, inside, may.lies_in), omega (arith, inside, may.lies_in)) in
      (record { lies_in = lies; pool = may.pool; is_pool = may.is_pool; begins = may.begins; ends = may.ends }, bs, are, told, is)
  done fllen sllen s op answer t has step = step

  -- all ops
  pub all_done : (fllen sllen : ℕ) (s : RunState) (ops : List Op) (answers : List Answer) (t : RunState) → HasRanges memory part ops
      → RunsOps fllen sllen part s ops answers t → RunsOps fllen sllen memory s ops answers t
  all_done fllen sllen s [] [] t has same = same
  all_done fllen sllen s [] (answer ∷ answers) t has bad = absurd bad
  all_done fllen sllen s (op ∷ ops) [] t has bad = absurd bad
  all_done fllen sllen s (op ∷ ops) (answer ∷ answers) t (one, others) (u, step, runs) =
      (u, done fllen sllen s op answer u one step, all_done fllen sllen u ops answers t others runs)
