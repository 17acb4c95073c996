-- The outcomes of the calls of a checked allocator, as numbers.
use Rattle.std.proofs.Common.{◌≡◌, ◌≢◌, ℕ, ◌+◌, List, length, take, drop, Option, Some, None, Result, Ok, Err, arith, refl, sym, ◌∙◌}
use Rattle.std.proofs.Common.{ap, subst, inl, inr}
use mathlib.Core.Path.{ap₂}
use Rattle.std.proofs.lemmas.Option.{none-some}
use Rattle.std.specs.Prelude.{IfErr, IfOk, OnErr, OnOk}
use Rattle.std.specs.List.{splice}
use Rattle.std.specs.declared.num.NonZeroUsize.{NonZeroUsize}
use Rattle.rlsf_base.specs.Addr.{at}
use Rattle.rlsf_base.specs.declared.memory.range.Range.{Range}
use Rattle.rlsf_base.specs.Layout.{IsLayout}
use Rattle.rlsf_base.specs.Range.{range_at}
use Rattle.rlsf_base.specs.Space.{SamePlace, Space, range_of}
use Rattle.rlsf_model.specs.Allocate as machine
use Rattle.rlsf_model.specs.Callers.{align_at, bytes_at}
use Rattle.rlsf_model.specs.NoMove.{ReallocatesWithoutMove}
use Rattle.rlsf_model.specs.Reallocate.{Reallocates}
use Rattle.rlsf_model.specs.State.{State, empty}
use Rattle.rlsf_tlsf.specs.Results.{IsAllocated, KeepsFrameOfPools}
use Rattle.rlsf_tlsf.specs.Results as tlsf
use Rattle.rlsf_checked.specs.Answers.{IsInsertAnswer, IsRefusedBy, append_answer, fits, if_in_range, if_live, insert_answer, addr_in as addr_in_result, size_refusal}
use Rattle.rlsf_checked.specs.Checked.{Checked, PoolList}
use Rattle.rlsf_checked.specs.Pools.{with_longer_last, with_pool}
use Rattle.rlsf_checked.specs.Results.{IsDeallocatedIfLive, IsReallocatedSameAlign, RefusesUnchanged, RefusesUntouched}
use Rattle.rlsf_checked.specs.Results.{KeepsCheckedFrame, KeepsCheckedFrameInPlace, KeepsCheckedFrameMoving}
use Rattle.rlsf_checked.specs.declared.error.CheckedError.{CheckedError}
use Rattle.rlsf_checked.specs.declared.error.CheckedError.TheVariants.{InvalidClasses, OutOfMemory, UnknownAddress, OutOfRange, OutsideMemory, NotBehind, NotNext, TooShort}
use Rattle.rlsf_checked.specs.declared.error.CheckedError.TheVariants.{NoLayout, NoRoom, InUse, NotChunks}
use Rattle.rlsf_pool_calls.specs.Answers.{answer_of, reply_code, error_code, address_answer, answer_value, refused_by}
use Rattle.rlsf_pool_calls.specs.Calls.{PoolAllocates, PoolAppends, PoolFrees, PoolInserts, KeepsSeenPayloads, IsKeptBut, IsSeenResized, IsReportedAs, Reads, PoolResizes, PoolResizesThere, Tells, PoolWrites, reach}
use Rattle.rlsf_pool_calls.specs.Seen.{Seen, nothing, seen_in}

-- ---- errors

-- no error has the number 0
pub error_code-some : (e : CheckedError) → error_code e ≡ 0 → ⊥
error_code-some InvalidClasses e = omega (arith, e)
error_code-some OutOfMemory e = omega (arith, e)
error_code-some UnknownAddress e = omega (arith, e)
error_code-some OutOfRange e = omega (arith, e)
error_code-some OutsideMemory e = omega (arith, e)
error_code-some NotBehind e = omega (arith, e)
error_code-some NotNext e = omega (arith, e)
error_code-some TooShort e = omega (arith, e)
error_code-some NoLayout e = omega (arith, e)
error_code-some NoRoom e = omega (arith, e)
error_code-some InUse e = omega (arith, e)
error_code-some NotChunks e = omega (arith, e)

-- an error places nothing
pub answer_value-refused : (e : CheckedError) → answer_value (refused_by e) ≡ None
answer_value-refused InvalidClasses = refl
answer_value-refused OutOfMemory = refl
answer_value-refused UnknownAddress = refl
answer_value-refused OutOfRange = refl
answer_value-refused OutsideMemory = refl
answer_value-refused NotBehind = refl
answer_value-refused NotNext = refl
answer_value-refused TooShort = refl
answer_value-refused NoLayout = refl
answer_value-refused NoRoom = refl
answer_value-refused InUse = refl
answer_value-refused NotChunks = refl

-- what is placed is what the answer says
pub answer_value-same : (r : Result NonZeroUsize CheckedError) → addr_in_result r ≡ answer_value (address_answer r)
answer_value-same (Ok addr) = refl
answer_value-same (Err e) = sym (answer_value-refused e)

-- ---- what is seen

pub same_range : (m n : Space) → SamePlace m n → range_of n ≡ range_of m
same_range m n place = ap₂ range_at place.0 place.1

abbrev seen_at : ℕ → State → Range → PoolList → Seen
seen_at classes state memory pools = record { classes = classes; state = state; memory = memory; pools = pools }

pub same_seen : (sllen : ℕ) (old new : Checked) → new.heap.state ≡ old.heap.state → new.pools ≡ old.pools → SamePlace old.heap.memory new.heap.memory
    → seen_in sllen new ≡ seen_in sllen old
same_seen sllen old new state pool place =
    ap (λ s. seen_at sllen s (range_of new.heap.memory) new.pools) state
    ∙ ap (λ r. seen_at sllen old.heap.state r new.pools) (same_range old.heap.memory new.heap.memory place)
    ∙ ap (λ p. seen_at sllen old.heap.state (range_of old.heap.memory) p) pool

pub kept_but : (sllen : ℕ) (old new : Checked) (addr : ℕ) → SamePlace old.heap.memory new.heap.memory → new.pools ≡ old.pools
    → ((a : ℕ) → a ≢ addr → align_at new.heap.state a ≡ align_at old.heap.state a)
    → ((a : ℕ) → a ≢ addr → bytes_at new.heap.state a ≡ bytes_at old.heap.state a)
    → IsKeptBut addr (seen_in sllen old) (seen_in sllen new)
kept_but sllen old new addr place pool aligns bytes =
    record { classes = refl; memory = same_range old.heap.memory new.heap.memory place; pools = pool; aligns = aligns; bytes = bytes }

pub kept_same : (addr : ℕ) (v : Seen) → IsKeptBut addr v v
kept_same addr v = record { classes = refl; memory = refl; pools = refl; aligns = λ a apart. refl; bytes = λ a apart. refl }

-- where there is no allocator, nothing is live
pub none_in_empty : (addr : ℕ) → align_at empty addr ≡ None
unfolding align_at
none_in_empty addr = refl

-- ---- ranges

-- the ranges, of which an answer has the length of the last one
pools_if : (new : PoolList) (make : ℕ → PoolList) (r : Result ℕ CheckedError) → IfOk r (λ n. new ≡ make n) → (answer_of r).error ≡ 0
    → new ≡ make (answer_of r).value
pools_if new make (Ok n) made none = made
pools_if new make (Err e) made none = absurd (error_code-some e none)

-- and where it is an error
same_if : (sllen : ℕ) (old new : Checked) (r : Result ℕ CheckedError) → OnErr r (new.heap.state ≡ old.heap.state) → OnErr r (new.pools ≡ old.pools)
    → SamePlace old.heap.memory new.heap.memory
    → (answer_of r).error ≢ 0 → seen_in sllen new ≡ seen_in sllen old
same_if sllen old new (Ok n) same pool place some = absurd (some refl)
same_if sllen old new (Err e) same pool place some = same_seen sllen old new same pool place

-- the payloads that a call on pools keeps
pub kept_all : (sllen : ℕ) (old new : Checked) → KeepsFrameOfPools old.heap new.heap → KeepsSeenPayloads (seen_in sllen old) (seen_in sllen new)
kept_all sllen old new kept =
    record { classes = refl; memory = same_range old.heap.memory new.heap.memory kept.place; aligns = kept.aligns; bytes = kept.bytes }

-- where there is no allocator, a range is outside of the memory
pub none_inserted : (r : Range) → PoolInserts (Err OutsideMemory) nothing r (refused_by OutsideMemory) nothing
none_inserted r = record {
  told = inl refl;
  kept = record { classes = refl; memory = refl; aligns = refl; bytes = refl };
  pools = λ e. absurd (error_code-some OutsideMemory e);
  same = λ some. refl;
}

module _ (fllen sllen : ℕ) (old new : Checked) (range : Range) (r : Result ℕ CheckedError) (kept : KeepsFrameOfPools old.heap new.heap) where
  pub inserted : IfOk r (λ n. new.pools ≡ with_pool old.pools (range_at range.start n)) → RefusesUnchanged old new (IsInsertAnswer fllen old range r) r
      → PoolInserts (insert_answer fllen old range) (seen_in sllen old) range (answer_of r) (seen_in sllen new)
  inserted pools refused = record {
    told = elim refused.answer [ inl e ↦ inl (ap answer_of e) | inr (e, some, within, behind) ↦ inr (ap answer_of e, (some, within, behind)) ];
    kept = kept_all sllen old new kept;
    pools = pools_if new.pools (λ n. with_pool old.pools (range_at range.start n)) r pools;
    same = same_if sllen old new r refused.same refused.pools kept.place;
  }

  pub appended : IfOk r (λ n. new.pools ≡ with_longer_last old.pools n) → RefusesUnchanged old new (r ≡ append_answer fllen old range) r
      → PoolAppends (append_answer fllen old range) (seen_in sllen old) (answer_of r) (seen_in sllen new)
  appended pools refused = record {
    told = ap answer_of refused.answer;
    kept = kept_all sllen old new kept;
    pools = pools_if new.pools (λ n. with_longer_last old.pools n) r pools;
    same = same_if sllen old new r refused.same refused.pools kept.place;
  }

-- ---- payloads that are new

pub allocated : (sllen : ℕ) (old new : Checked) (size align : ℕ) → IsLayout size align → (r : Result NonZeroUsize CheckedError)
    → machine.Allocates sllen old.heap.state size align (addr_in_result r) new.heap.state
    → IfOk r (λ addr. IsAllocated old.heap.state new.heap.state size align (at addr)) → RefusesUnchanged old new (IfErr r (λ e. e ≡ NoRoom)) r → KeepsCheckedFrame old new
    → PoolAllocates (seen_in sllen old) size align (address_answer r) (seen_in sllen new)
allocated sllen old new size align layout (Ok addr) step is refused kept = record {
  no_layout = (λ e. absurd (omega (arith, e)), λ never. absurd (never layout));
  errors = inl refl;
  step = λ l. step;
  new = λ e.
      record { new = is.new; live = is.live; sized = is.sized; few = is.few; kept = kept_but sllen old new (at addr) kept.place kept.pools is.aligns is.bytes };
  same = λ some. absurd (some refl);
}
allocated sllen old new size align layout (Err e) step is refused kept =
    let is_full : PoolAllocates (seen_in sllen old) size align (refused_by NoRoom) (seen_in sllen new) = record {
      no_layout = (λ e. absurd (omega (arith, e)), λ never. absurd (never layout));
      errors = inr (inr refl);
      step = λ l. step;
      new = λ e. absurd (error_code-some NoRoom e);
      same = λ some. same_seen sllen old new refused.same kept.pools kept.place;
    } in subst (λ d. PoolAllocates (seen_in sllen old) size align (refused_by d) (seen_in sllen new)) (sym refused.answer) is_full

-- ---- payloads that go

-- after an error all is as it was
pub same_unless : (sllen : ℕ) (old new : Checked) (r : Result (Unit {0}) CheckedError) → OnErr r (new ≡ old) → reply_code r ≢ 0 → seen_in sllen new ≡ seen_in sllen old
same_unless sllen old new (Ok x) same some = absurd (some refl)
same_unless sllen old new (Err e) same some = ap (seen_in sllen) same

pub freed : (sllen : ℕ) (old new : Checked) (addr : ℕ) (r : Result (Unit {0}) CheckedError) → IsDeallocatedIfLive old.heap.state new.heap.state addr r
    → RefusesUntouched old new (r ≡ if_live (align_at old.heap.state addr) tt) r → KeepsCheckedFrame old new → PoolFrees (seen_in sllen old) addr (reply_code r) (seen_in sllen new)
freed sllen old new addr r is refused kept = record {
  told = ap reply_code refused.answer;
  gone = is.gone;
  kept = kept_but sllen old new addr kept.place kept.pools is.aligns is.bytes;
  same = same_unless sllen old new r refused.same;
}

pub none_freed : (v : Seen) (addr : ℕ) → align_at v.state addr ≡ None → PoolFrees v addr (error_code UnknownAddress) v
none_freed v addr none = record {
  told = sym (ap (λ o. reply_code (if_live o tt)) none);
  gone = none;
  kept = kept_same addr v;
  same = λ some. refl;
}

-- ---- payloads that get another size

told_by : (o : Option CheckedError) (r : Result NonZeroUsize CheckedError) → IsRefusedBy o r → IsReportedAs o (address_answer r).error
told_by (Some e) r is = ap (λ x. (address_answer x).error) is
told_by None (Ok addr) is = inl refl
told_by None (Err e) is = inr (ap error_code is)

module _ (sllen : ℕ) (old new : Checked) (addr size : ℕ) where
  -- what a call refuses to give another size
  abbrev pub Refuses : Result NonZeroUsize CheckedError → Type 0
  Refuses r = RefusesUnchanged old new (IsRefusedBy (size_refusal (align_at old.heap.state addr) size) r) r

  -- after an error all is as it was
  same_placed : (r : Result NonZeroUsize CheckedError) → new.pools ≡ old.pools → SamePlace old.heap.memory new.heap.memory → OnErr r (new.heap.state ≡ old.heap.state)
      → (address_answer r).error ≢ 0 → seen_in sllen new ≡ seen_in sllen old
  same_placed (Ok to) pool place same some = absurd (some refl)
  same_placed (Err e) pool place same some = same_seen sllen old new same pool place

  pub resized : (r : Result NonZeroUsize CheckedError)
      → (size_refusal (align_at old.heap.state addr) size ≡ None → Reallocates sllen old.heap.state addr size (addr_in_result r) new.heap.state)
      → IfOk r (λ to. IsReallocatedSameAlign old.heap.state new.heap.state addr size (at to)) → Refuses r → KeepsCheckedFrameMoving addr old new
      → PoolResizes (seen_in sllen old) addr size (address_answer r) (seen_in sllen new)
  resized r step is refused kept = record {
    told = told_by (size_refusal (align_at old.heap.state addr) size) r refused.answer;
    step = λ none. subst (λ o. Reallocates sllen old.heap.state addr size o new.heap.state) (answer_value-same r) (step none);
    resized = moved r is;
    same = same_placed r kept.pools kept.place refused.same;
  }
    where
      moved : (r : Result NonZeroUsize CheckedError) → IfOk r (λ to. IsReallocatedSameAlign old.heap.state new.heap.state addr size (at to)) → (address_answer r).error ≡ 0
          → IsSeenResized addr size (address_answer r).value (seen_in sllen old) (seen_in sllen new)
      moved (Ok to) is e = record {
        live = is.live;
        sized = is.sized;
        few = is.few;
        kept = is.kept;
        new = is.new;
        left = is.left;
        aligns = is.aligns;
        bytes = is.bytes;
        classes = refl;
        memory = same_range old.heap.memory new.heap.memory kept.place;
        pools = kept.pools;
      }
      moved (Err d) is e = absurd (error_code-some d e)

  pub resized_there : (r : Result NonZeroUsize CheckedError)
      → (size_refusal (align_at old.heap.state addr) size ≡ None → ReallocatesWithoutMove old.heap.state addr size (addr_in_result r) new.heap.state)
      → IfOk r (λ to. tlsf.IsResized old.heap.state new.heap.state addr size (at to)) → Refuses r → KeepsCheckedFrameInPlace addr old new
      → PoolResizesThere (seen_in sllen old) addr size (address_answer r) (seen_in sllen new)
  resized_there r step is refused kept = record {
    told = told_by (size_refusal (align_at old.heap.state addr) size) r refused.answer;
    step = λ none. subst (λ o. ReallocatesWithoutMove old.heap.state addr size o new.heap.state) (answer_value-same r) (step none);
    there = stays r is;
    resized = stayed r is;
    same = same_placed r kept.pools kept.place refused.same;
  }
    where
      stays : (r : Result NonZeroUsize CheckedError) → IfOk r (λ to. tlsf.IsResized old.heap.state new.heap.state addr size (at to)) → (address_answer r).error ≡ 0
          → (address_answer r).value ≡ addr
      stays (Ok to) is e = is.there
      stays (Err d) is e = absurd (error_code-some d e)

      stayed : (r : Result NonZeroUsize CheckedError) → IfOk r (λ to. tlsf.IsResized old.heap.state new.heap.state addr size (at to)) → (address_answer r).error ≡ 0
          → IsSeenResized addr size addr (seen_in sllen old) (seen_in sllen new)
      stayed (Ok to) is e = record {
        live = ap (λ f. f addr) kept.aligns;
        sized = is.sized;
        few = is.few;
        kept = is.kept;
        new = λ apart. absurd (apart refl);
        left = λ apart. absurd (apart refl);
        aligns = λ a apart apart'. ap (λ f. f a) kept.aligns;
        bytes = λ a apart apart'. kept.bytes a apart;
        classes = refl;
        memory = same_range old.heap.memory new.heap.memory kept.place;
        pools = kept.pools;
      }
      stayed (Err d) is e = absurd (error_code-some d e)

-- where none is live, none gets another size
refuses : (o : Option ℕ) (size : ℕ) → o ≡ None → size_refusal o size ≡ Some UnknownAddress
refuses o size none = ap (λ p. size_refusal p size) none

pub none_resized : (v : Seen) (addr size : ℕ) → align_at v.state addr ≡ None → PoolResizes v addr size (refused_by UnknownAddress) v
none_resized v addr size none =
    let refused = refuses (align_at v.state addr) size none in record {
      told = subst (λ o. IsReportedAs o 3) (sym refused) refl;
      step = λ e. absurd (none-some UnknownAddress (sym e ∙ refused));
      resized = λ e. absurd (error_code-some UnknownAddress e);
      same = λ some. refl;
    }

pub none_resized_there : (v : Seen) (addr size : ℕ) → align_at v.state addr ≡ None → PoolResizesThere v addr size (refused_by UnknownAddress) v
none_resized_there v addr size none =
    let refused = refuses (align_at v.state addr) size none in record {
      told = subst (λ o. IsReportedAs o 3) (sym refused) refl;
      step = λ e. absurd (none-some UnknownAddress (sym e ∙ refused));
      there = λ e. absurd (error_code-some UnknownAddress e);
      resized = λ e. absurd (error_code-some UnknownAddress e);
      same = λ some. refl;
    }

-- ---- bytes

pub none_told : (v : Seen) (addr : ℕ) → align_at v.state addr ≡ None → Tells v addr (refused_by UnknownAddress)
none_told v addr none = sym (ap (λ o. answer_of (if_live o (length (bytes_at v.state addr)))) none)

unreached : (v : Seen) (addr offset len : ℕ) → align_at v.state addr ≡ None → 3 ≡ reach v addr offset len
unreached v addr offset len none = sym (ap (λ o. reply_code (if_in_range o (fits offset len (bytes_at v.state addr)))) none)

pub none_read : (v : Seen) (addr offset : ℕ) (was : List ℕ) → align_at v.state addr ≡ None → Reads v addr offset was 3 was
none_read v addr offset was none = record { told = unreached v addr offset (length was) none; read = λ e. absurd (error_code-some UnknownAddress e); same = λ some. refl }

pub none_written : (v : Seen) (addr offset : ℕ) (bytes : List ℕ) → align_at v.state addr ≡ None → PoolWrites v addr offset bytes 3 v
none_written v addr offset bytes none = record {
  told = unreached v addr offset (length bytes) none;
  written = λ e. absurd (error_code-some UnknownAddress e);
  aligns = refl;
  kept = kept_same addr v;
  same = λ some. refl;
}

-- what an error or its absence says of a fact
pub on_done : (A : Type 0) (r : Result (Unit {0}) CheckedError) → OnOk r A → reply_code r ≡ 0 → A
on_done A (Ok x) did e = did
on_done A (Err d) did e = absurd (error_code-some d e)

pub on_refused : (A : Type 0) (r : Result (Unit {0}) CheckedError) → OnErr r A → reply_code r ≢ 0 → A
on_refused A (Ok x) did some = absurd (some refl)
on_refused A (Err d) did some = did

-- a call that writes bytes of one payload keeps the others
pub kept_only : (sllen : ℕ) (old new : Checked) (addr : ℕ) → KeepsCheckedFrameInPlace addr old new → IsKeptBut addr (seen_in sllen old) (seen_in sllen new)
kept_only sllen old new addr kept = kept_but sllen old new addr kept.place kept.pools (λ a apart. ap (λ f. f a) kept.aligns) kept.bytes

pub written : (sllen : ℕ) (old new : Checked) (addr offset : ℕ) (bytes : List ℕ) (r : Result (Unit {0}) CheckedError)
    → OnOk r (bytes_at new.heap.state addr ≡ splice (bytes_at old.heap.state addr) offset (offset + length bytes) bytes)
    → RefusesUntouched old new (r ≡ if_in_range (align_at old.heap.state addr) (fits offset (length bytes) (bytes_at old.heap.state addr))) r
    → KeepsCheckedFrameInPlace addr old new → PoolWrites (seen_in sllen old) addr offset bytes (reply_code r) (seen_in sllen new)
written sllen old new addr offset bytes r did refused kept = record {
  told = ap reply_code refused.answer;
  written = on_done (bytes_at new.heap.state addr ≡ splice (bytes_at old.heap.state addr) offset (offset + length bytes) bytes) r did;
  aligns = kept.aligns;
  kept = kept_only sllen old new addr kept;
  same = same_unless sllen old new r refused.same;
}

pub read_as : (v : Seen) (addr offset : ℕ) (was now : List ℕ) (r : Result (Unit {0}) CheckedError)
    → r ≡ if_in_range (align_at v.state addr) (fits offset (length was) (bytes_at v.state addr)) → OnOk r (now ≡ take (length was) (drop offset (bytes_at v.state addr)))
    → OnErr r (now ≡ was) → Reads v addr offset was (reply_code r) now
read_as v addr offset was now r told did same = record {
  told = ap reply_code told;
  read = on_done (now ≡ take (length was) (drop offset (bytes_at v.state addr))) r did;
  same = on_refused (now ≡ was) r same;
}
