-- The outcomes of the calls that overwrite payloads and remove ranges, as numbers.
use Rattle.std.proofs.Common.{◌≡◌, ◌≢◌, ◌⊎◌, ◌↔◌, ℕ, Bool, true, false, cond, length, replicate, Option, Some, None, Result, Ok, Err, arith, refl}
use Rattle.std.proofs.Common.{sym, ap, subst, inl, inr}
use Rattle.std.proofs.lemmas.Bool.{false≢true}
use Rattle.std.proofs.lemmas.Option.{none-some}
use Rattle.std.specs.Prelude.{IsSome, OnOk}
use Rattle.rlsf_base.specs.declared.memory.range.Range.{Range}
use Rattle.rlsf_blocks.specs.Blocks.{walked}
use Rattle.rlsf_model.specs.Callers.{align_at, bytes_at, copied_over}
use Rattle.rlsf_model.specs.Remove.{IsIdle, Removes}
use Rattle.rlsf_model.specs.Run.{Fills}
use Rattle.rlsf_tlsf.specs.Allocator.{Steps}
use Rattle.rlsf_tlsf.specs.Results.{KeepsFrameOfPools}
use Rattle.rlsf_checked.specs.Answers.{both_have, copy_answer, if_both_in_range, if_live}
use Rattle.rlsf_checked.specs.Checked.{Checked}
use Rattle.rlsf_checked.specs.Pools.{without_last, without_pool_at}
use Rattle.rlsf_checked.specs.Removal.{IsRemovalOf}
use Rattle.rlsf_checked.specs.Results.{KeepsCheckedFrameCopying, KeepsCheckedFrameInPlace, RefusesUntouched}
use Rattle.rlsf_checked.specs.declared.error.CheckedError.{CheckedError}
use Rattle.rlsf_checked.specs.declared.error.CheckedError.TheVariants.{NotChunks, UnknownAddress}
use Rattle.rlsf_checked.proofs.FieldsOverSteps.{step_of}
use Rattle.rlsf_pool_calls.specs.Answers.{reply_code, error_code}
use Rattle.rlsf_pool_calls.specs.declared.answers.Answer.{Answer}
use Rattle.rlsf_pool_calls.specs.Calls.{PoolAllocates, PoolAllocatesZeroed, PoolCopies, RemovesLast, RemovesRange, Zeroes}
use Rattle.rlsf_pool_calls.specs.Seen.{Seen, nothing, seen_in}
use Rattle.rlsf_pool_calls.proofs.Outcomes.{kept_all, kept_but, kept_only, kept_same, error_code-some, on_done, same_unless}

-- ---- copies

pub copied : (sllen : ℕ) (old new : Checked) (from to len : ℕ) (r : Result (Unit {0}) CheckedError)
    → OnOk r (bytes_at new.heap.state to ≡ copied_over old.heap.state from to len) → RefusesUntouched old new (r ≡ copy_answer old.heap.state from to len) r
    → KeepsCheckedFrameCopying to len old new r → PoolCopies (seen_in sllen old) from to len (reply_code r) (seen_in sllen new)
copied sllen old new from to len r did refused kept = record {
  told = ap reply_code refused.answer;
  copied = on_done (bytes_at new.heap.state to ≡ copied_over old.heap.state from to len) r did;
  aligns = kept.aligns;
  kept = kept_but sllen old new to kept.place kept.pools (λ a apart. ap (λ f. f a) kept.aligns) kept.bytes;
  same = same_unless sllen old new r refused.same;
}

-- where none lives at one of the addresses, the copy is refused
refused_both : (o p : Option ℕ) (fits : Bool) → (o ≡ None) ⊎ (p ≡ None) → if_both_in_range o p fits ≡ Err UnknownAddress
refused_both None p fits none = refl
refused_both (Some a) None fits none = refl
refused_both (Some a) (Some b) fits (inl none) = absurd (none-some a (sym none))
refused_both (Some a) (Some b) fits (inr none) = absurd (none-some b (sym none))

pub none_copied : (v : Seen) (from to len : ℕ) → (align_at v.state from ≡ None) ⊎ (align_at v.state to ≡ None) → PoolCopies v from to len 3 v
none_copied v from to len none = record {
  told = sym (ap reply_code (refused_both (align_at v.state from) (align_at v.state to) (both_have len (bytes_at v.state from) (bytes_at v.state to)) none));
  copied = λ e. absurd (error_code-some UnknownAddress e);
  aligns = refl;
  kept = kept_same to v;
  same = λ some. refl;
}

-- ---- zeros

-- at a live address nothing is refused
is_done : (o : Option ℕ) (r : Result (Unit {0}) CheckedError) → r ≡ if_live o tt → IsSome o → r ≡ Ok tt
is_done None r told live = absurd (false≢true live)
is_done (Some align) r told live = told

pub zeroed : (fllen sllen : ℕ) (old new : Checked) (addr : ℕ) (r : Result (Unit {0}) CheckedError) → IsSome (align_at old.heap.state addr)
    → OnOk r (Steps fllen sllen old.heap new.heap (Fills old.heap.state addr (replicate (length (bytes_at old.heap.state addr)) 0)))
    → OnOk r (bytes_at new.heap.state addr ≡ replicate (length (bytes_at old.heap.state addr)) 0) → r ≡ if_live (align_at old.heap.state addr) tt
    → KeepsCheckedFrameInPlace addr old new → Zeroes (seen_in sllen old) addr (seen_in sllen new)
zeroed fllen sllen old new addr r live step filled told kept =
    let zeros = replicate (length (bytes_at old.heap.state addr)) 0 in
    let done = is_done (align_at old.heap.state addr) r told live in record {
      step =
          step_of fllen sllen old.heap new.heap (Fills old.heap.state addr zeros)
          (subst (λ x. OnOk x (Steps fllen sllen old.heap new.heap (Fills old.heap.state addr zeros))) done step);
      zeros = subst (λ x. OnOk x (bytes_at new.heap.state addr ≡ zeros)) done filled;
      aligns = kept.aligns;
      kept = kept_only sllen old new addr kept;
    }

-- one that is refused
pub none_zeroed : (before after : Seen) (size align : ℕ) (answer : Answer) → PoolAllocates before size align answer after → answer.error ≢ 0
    → PoolAllocatesZeroed before size align answer after
none_zeroed before after size align answer did some = record {
  middle = after;
  allocated = did;
  zeroed = λ e. absurd (some e);
  new = λ e. absurd (some e);
  zeros = λ e. absurd (some e);
  same = did.same;
}

-- where there is no allocator, every allocation is refused
pub nothing_zeroed : (size align : ℕ) (answer : Answer) → PoolAllocates nothing size align answer nothing → PoolAllocatesZeroed nothing size align answer nothing
unfolding align_at
nothing_zeroed size align answer did = none_zeroed nothing nothing size align answer did (λ none. none-some align (did.new none).live)

-- ---- removals

pub removed : (sllen : ℕ) (old new : Checked) (b : Bool) → (b ≡ true → Removes old.heap.state (walked old.pools.last) new.heap.state)
    → (b ≡ true → new.pools ≡ without_last old.pools) → ((b ≡ true) ↔ IsIdle old.heap.state (walked old.pools.last)) → (b ≡ false → new ≡ old)
    → KeepsFrameOfPools old.heap new.heap → RemovesLast (seen_in sllen old) (cond b 0 15) (seen_in sllen new)
removed sllen old new true step pools idle same kept = record {
  errors = inl refl;
  idle = (λ e. idle.0 refl, λ i. refl);
  step = λ e. step refl;
  kept = kept_all sllen old new kept;
  pools = λ e. pools refl;
  same = λ some. absurd (some refl);
}
removed sllen old new false step pools idle same kept = record {
  errors = inr refl;
  idle = (λ e. absurd (omega (arith, e)), λ i. absurd (false≢true (idle.1 i)));
  step = λ e. absurd (omega (arith, e));
  kept = kept_all sllen old new kept;
  pools = λ e. absurd (omega (arith, e));
  same = λ some. ap (seen_in sllen) (same refl);
}

pub none_removed : RemovesLast nothing 0 nothing
none_removed = record {
  errors = inl refl;
  idle = (λ e a low high. refl, λ i. refl);
  step = λ e. refl;
  kept = record { classes = refl; memory = refl; aligns = refl; bytes = refl };
  pools = λ e. refl;
  same = λ some. refl;
}

-- the reference model made the step, if one was made
step_if : (fllen sllen : ℕ) (old new : Checked) (range : Range) (r : Result (Unit {0}) CheckedError)
    → OnOk r (Steps fllen sllen old.heap new.heap (Removes old.heap.state (walked range))) → OnOk r (Removes old.heap.state (walked range) new.heap.state)
step_if fllen sllen old new range (Ok x) step = step_of fllen sllen old.heap new.heap (Removes old.heap.state (walked range)) step
step_if fllen sllen old new range (Err e) step = tt

pub range_removed : (fllen sllen : ℕ) (old new : Checked) (range : Range) (r : Result (Unit {0}) CheckedError)
    → OnOk r (Steps fllen sllen old.heap new.heap (Removes old.heap.state (walked range))) → OnOk r (new.pools ≡ without_pool_at old.pools range.start)
    → RefusesUntouched old new (IsRemovalOf old.pools old.heap.state range r) r → KeepsFrameOfPools old.heap new.heap
    → RemovesRange (seen_in sllen old) range (reply_code r) (seen_in sllen new)
range_removed fllen sllen old new range r step pools refused kept = record {
  told = (r, refl, refused.answer);
  step = on_done (Removes old.heap.state (walked range) new.heap.state) r (step_if fllen sllen old new range r step);
  kept = kept_all sllen old new kept;
  pools = on_done (new.pools ≡ without_pool_at old.pools range.start) r pools;
  same = same_unless sllen old new r refused.same;
}

-- where there is no allocator, no range was inserted
pub no_range_removed : (r : Range) → RemovesRange nothing r (error_code NotChunks) nothing
no_range_removed r = record {
  told = (Err NotChunks, refl, inl (refl, λ i. i));
  step = λ e. absurd (error_code-some NotChunks e);
  kept = record { classes = refl; memory = refl; aligns = refl; bytes = refl };
  pools = λ e. absurd (error_code-some NotChunks e);
  same = λ some. refl;
}
