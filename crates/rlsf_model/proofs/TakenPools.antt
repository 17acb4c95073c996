-- An inserted range, complete except for some bytes at its ends, makes the awaited allocation succeed.
use Rattle.std.specs.Option.{option_map_or}
use Rattle.std.proofs.Common.{◌≡◌, ℕ, ◌+◌, ◌-◌, ◌*◌, ◌/◌, ◌%◌, ◌<◌, ◌≤◌, List, Option, Some, None, find, true≢false, arith, refl}
use Rattle.std.proofs.Common.{sym, ◌∙◌, ap, subst, inl, inr}
use Rattle.std.proofs.lemmas.Bool.{cases_lt, eq-eqb, eqb-true}
use Rattle.std.proofs.lemmas.Option.{none-some, same_Some}
use Rattle.rlsf_base.specs.declared.memory.range.Range.{Range}
use Rattle.rlsf_base.specs.Range.{end_of, range_at}
use Rattle.rlsf_model_sizes.specs.SizeClass.{class_of, IsValid}
use Rattle.rlsf_model_sizes.specs.Sizes.{max_pool_size, pool_size_to_contain_allocation, request_size}
use Rattle.rlsf_base.proofs.SizeClasses.Order.{IsAtMost-class_of, Reaches-IsAtMost}
use Rattle.rlsf_base.proofs.SizeClasses.Reach.{division-lt}
use Rattle.rlsf_base.proofs.SizeMaps.PoolSizes.{max_pool_size-some}
use Rattle.rlsf_base.proofs.SizeMaps.Laws.{pool_contains_its_allocation, pool_is_one_chunk}
use Rattle.rlsf_base.proofs.SizeMaps.RowLengths.{IsPower-row_length}
use Rattle.rlsf_model.specs.Allocate.{choice, Allocates}
use Rattle.rlsf_model.specs.Insert.{aligned_part, appended, appended_bytes, body, bytes_taken, cut, end_of_last, extended, grown, with_chunks, Appends, Inserts, IsNext}
use Rattle.rlsf_model.specs.Join.{ends_at}
use Rattle.rlsf_model.specs.Lists.{IsIn}
use Rattle.rlsf_model.specs.PoolLength.{HasAlignedPart, HasFreePool, IsPoolSize}
use Rattle.rlsf_model.specs.State.{State}
use Rattle.rlsf_model.specs.WellFormed.{IsWellFormed, IsWhole}
use Rattle.rlsf_model.proofs.AddedChunks.{AreCutFrom, AreCutFrom-cut, IsIn-with_chunks_new}
use Rattle.rlsf_model.proofs.Choices.{choice-none}
use Rattle.rlsf_model.proofs.Chunks.{IsIn-with_chunks}
use Rattle.rlsf_model.proofs.Coverage.{find-none, find-some, IsIn-without}
use Rattle.rlsf_model.proofs.Cuts.{chunks_are_cut_off_the_front, most_whole}
use Rattle.rlsf_model.proofs.Joins.{IsIn-join}
use Rattle.rlsf_model.proofs.Releases.{IsSound-free}

-- a chunk of the state after was one before, lies in the inserted range, or is one that ended there and is longer now
pub data Origin (s : State) (r : Range) (n : ℕ) (c : Range) : Type 0 where
  old : IsIn c s.chunks → Origin s r n c
  new : r.start ≤ c.start → end_of c ≤ r.start + n → Origin s r n c
  longer : (d : Range) → IsIn d s.chunks → d.start ≡ c.start → end_of d ≡ r.start → end_of c ≡ r.start + n → Origin s r n c

-- n bytes of the range were taken: all but fewer than 64, up to the last chunk's end
pub record IsTaken (s : State) (r : Range) (n : ℕ) (t : State) : Type 0 where
  pub within : n ≤ r.len
  pub nearly : r.len < n + 64
  pub last : (c : Range) × IsIn c t.chunks × (end_of c ≡ r.start + n)
  pub origin : (c : Range) → IsIn c t.chunks → Origin s r n c

-- a pool has 64 bytes or more, a multiple of 32, and is no longer than the longest chunk
pub pool_size_is : (fl_bits sl_bits fllen sllen e : ℕ) → IsValid fl_bits sl_bits fllen sllen → IsPoolSize fllen sllen e
    → (64 ≤ e) × (e % 32 ≡ 0) × ((p : ℕ) → max_pool_size fllen ≡ Some p → e ≤ p)
pool_size_is fl_bits sl_bits fllen sllen e valid pool =
    let (long, size, class, reached) = pool_contains_its_allocation fl_bits sl_bits fllen sllen pool.size pool.align e valid pool.is in
    (long, size.1, λ p. pool_is_one_chunk fl_bits sl_bits fllen sllen pool.size pool.align e p valid pool.is)

-- a pool has room for its allocation
pub pool_has_a_choice : (fl_bits sl_bits fllen sllen size align e : ℕ) (t : State) → IsValid fl_bits sl_bits fllen sllen
    → pool_size_to_contain_allocation fllen sllen size align ≡ Some e → HasFreePool e t → choice sllen (request_size size align) t.free ≡ None → ⊥
pool_has_a_choice fl_bits sl_bits fllen sllen size align e t valid told pool none =
    let (room, e_is, class, reached) = pool_contains_its_allocation fl_bits sl_bits fllen sllen size align e valid told in
    let f = pool.range in
    let some = (IsPower-row_length sllen valid.power_of_two).some in
    let less : 0 < e - 32 = omega (arith, room) in
    let order : e - 32 ≤ f.len = omega (arith, pool.long) in
    let longer =
    Reaches-IsAtMost sllen (class_of sllen (e - 32)) (class_of sllen f.len) (request_size size align) (division-lt sllen (e - 32) less some)
    (IsAtMost-class_of sllen (e - 32) f.len some less order) reached in
    choice-none sllen (request_size size align) t.free none f pool.is_free longer

-- so that it isn't refused
pub pool_is_found : (fl_bits sl_bits fllen sllen size align e : ℕ) (memory : Range) (t u : State) → IsValid fl_bits sl_bits fllen sllen → IsWellFormed fllen sllen memory t
    → pool_size_to_contain_allocation fllen sllen size align ≡ Some e → HasFreePool e t → Allocates sllen t size align None u → ⊥
pool_is_found fl_bits sl_bits fllen sllen size align e memory t u valid w told pool refused = pool_has_a_choice fl_bits sl_bits fllen sllen size align e t valid told pool refused.0

-- ---- a range becomes chunks of its own

-- a part with e bytes, and fewer than 32 bytes of the range behind it
record IsPartOf (e : ℕ) (r part : Range) : Type 0 where
  from : r.start ≤ part.start
  to : end_of part ≤ end_of r
  nearly : end_of r < end_of part + 32
  long : e ≤ part.len

IsPartOf-aligned_part : (e : ℕ) (r : Range) → 64 ≤ e → e % 32 ≡ 0 → HasAlignedPart r e → IsPartOf e r (aligned_part r)
IsPartOf-aligned_part e r room whole has = grind arith

cut_pool : (e end : ℕ) (s : State) (r part : Range) (cs : List Range) → IsPartOf e r part → AreCutFrom e part end cs
    → IsTaken s r (end - r.start) (with_chunks cs s) × HasFreePool e (with_chunks cs s)
cut_pool e end s r part cs is are =
    let (c, c_in, c_long) = are.wide in
    let (d, d_in, d_end) = are.last in
    let low : r.start ≤ end = omega (arith, is.from, are.from c c_in, are.to c c_in) in (
      record {
        within = omega (arith, is.to, are.within);
        nearly = omega (arith, is.nearly, are.nearly);
        last = (d, (IsIn-with_chunks_new d cs s d_in).0, omega arith);
        origin = λ x i. elim (IsIn-with_chunks x cs s i) [
          | inl made ↦ new (omega (arith, is.from, are.from x made)) (omega (arith, are.to x made))
          | inr kept ↦ old kept
        ];
      },
      record { range = body c; is_free = (IsIn-with_chunks_new c cs s c_in).1; long = omega arith },
    )

-- a range that is inserted is taken, and has a pool
pub inserted_pool : (fllen sllen e : ℕ) (s t : State) (r : Range) (taken : Option ℕ) → 0 < fllen → 64 ≤ e → e % 32 ≡ 0
    → ((p : ℕ) → max_pool_size fllen ≡ Some p → e ≤ p)
    → HasAlignedPart r e → Inserts fllen s r taken t → (n : ℕ) × (taken ≡ Some n) × IsTaken s r n t × HasFreePool e t
inserted_pool fllen sllen e s t r taken rows room whole short has step =
    let part = aligned_part r in
    let cs = cut (max_pool_size fllen) part in
    let end = end_of_last part.start cs in
    let is = IsPartOf-aligned_part e r room whole has in
    let are = AreCutFrom-cut fllen e part rows room short (omega arith) is.long in
    let (is_taken, pool) = cut_pool e end s r part cs is are in
    (end - r.start, step.answer ∙ are.told r.start, subst (IsTaken s r (end - r.start)) (sym step.after) is_taken, subst (HasFreePool e) (sym step.after) pool)

-- no chunk is cut off fewer than 64 bytes
bytes_taken-long : (fllen start n : ℕ) (part : Range) → 0 < fllen → bytes_taken start (cut (max_pool_size fllen) part) ≡ Some n → 64 ≤ part.len
bytes_taken-long fllen start n part rows told = elim (cases_lt part.len 64) [
  | inl short ↦ absurd (none-some n (sym (ap (bytes_taken start) ((chunks_are_cut_off_the_front fllen part.start part.len rows).0 short)) ∙ told))
  | inr long ↦ long
]

-- a greatest length has room for a block
most_long : (fllen p : ℕ) → 0 < fllen → max_pool_size fllen ≡ Some p → 64 ≤ p
most_long fllen p rows is = omega (arith, (max_pool_size-some fllen p is).1, (most_whole fllen rows).1)

-- a range of which an insert takes something is taken
pub inserted_taken : (fllen : ℕ) (s t : State) (r : Range) (n : ℕ) → 0 < fllen → Inserts fllen s r (Some n) t → (64 ≤ r.len) × IsTaken s r n t
inserted_taken fllen s t r n rows step =
    let part = aligned_part r in
    let cs = cut (max_pool_size fllen) part in
    let end = end_of_last part.start cs in
    let long = bytes_taken-long fllen r.start n part rows (sym step.answer) in
    let is : IsPartOf 64 r part = record { from = omega arith; to = omega (arith, long); nearly = omega (arith, long); long = long } in
    let are = AreCutFrom-cut fllen 64 part rows (omega arith) (λ p most. most_long fllen p rows most) (omega arith) long in
    let (is_taken, pool) = cut_pool 64 end s r part cs is are in
    let same : end - r.start ≡ n = same_Some (end - r.start) n (sym (are.told r.start) ∙ sym step.answer) in
    (omega (arith, long), subst (λ m. IsTaken s r m t) same (subst (IsTaken s r (end - r.start)) (sym step.after) is_taken))

-- ---- a chunk goes on

module _ {fllen sllen : ℕ} {memory : Range} {s : State} (w : IsWellFormed fllen sllen memory s) (e m : ℕ) (r : Range) (some : 0 < m) (m32 : m % 32 ≡ 0) (long : e ≤ m)
    (within : m ≤ r.len) (nearly : r.len < m + 64) where
  grown_pool : (c : Range) → IsIn c s.chunks → end_of c ≡ r.start → IsTaken s r m (grown c m s) × HasFreePool e (grown c m s)
  grown_pool c is_chunk ends =
      let chunk = w.chunks c is_chunk in
      let room = chunk.has_room in
      let made = range_at (end_of c - 32) m in
      let whole : IsWhole made = record { start = omega (arith, chunk.whole.start, chunk.whole.len); len = m32 } in
      let (f, is_free, wide) = IsIn-join made s.free whole some (IsSound-free w) in (
        record {
          within = within;
          nearly = nearly;
          last = (range_at c.start (c.len + m), inl refl, omega arith);
          origin = λ x. elim [
            | inl same ↦ longer c is_chunk (sym (ap (λ y. y.start) same)) ends (ap end_of same ∙ omega arith)
            | inr kept ↦ old (IsIn-without (ends_at (end_of c)) x s.chunks kept)
          ];
        },
        record { range = f; is_free = is_free; long = omega arith },
      )

  -- the chunk that ends there is found
  grown_if_pool : (c : Range) → IsIn c s.chunks → end_of c ≡ r.start → (o : Option Range) → find (ends_at r.start) s.chunks ≡ o
      → IsTaken s r m (option_map_or (λ c. grown c m s) o s) × HasFreePool e (option_map_or (λ c. grown c m s) o s)
  grown_if_pool c is_chunk ends None none = absurd (true≢false (sym (eq-eqb (end_of c) r.start ends) ∙ find-none (ends_at r.start) c s.chunks none is_chunk))
  grown_if_pool c is_chunk ends (Some d) found =
      let (is_in, passes) = find-some (ends_at r.start) d s.chunks found in
      grown_pool d is_in (eqb-true (end_of d) r.start passes)

extended-some : (at n : ℕ) (s : State) → 0 < n → extended at n s ≡ option_map_or (λ c. grown c n s) (find (ends_at at) s.chunks) s
extended-some at n' s some = grind arith

-- a range that is appended is taken, and has a pool
pub appended_pool : (fllen sllen e : ℕ) (memory : Range) (s t : State) (r : Range) (n : ℕ) → IsWellFormed fllen sllen memory s → IsNext memory s r → 64 ≤ e
    → e % 32 ≡ 0
    → ((p : ℕ) → max_pool_size fllen ≡ Some p → e ≤ p) → e ≤ r.len → Appends fllen s r n t → IsTaken s r n t × HasFreePool e t
appended_pool fllen sllen e memory s t r n w next room whole short long step =
    let chunk = w.chunks next.chunk next.is_chunk in
    let begins : r.start % 32 ≡ 0 = omega (arith, chunk.whole.start, chunk.whole.len, next.ends) in
    let by = pool_by begins (max_pool_size fllen) refl in
    (subst (IsTaken s r n) (sym step.after) (subst (λ k. IsTaken s r k (appended (max_pool_size fllen) r s)) (sym step.answer) by.0), subst (HasFreePool e) (sym step.after) by.1)
  where
    pool_by : r.start % 32 ≡ 0 → (o : Option ℕ) → max_pool_size fllen ≡ o → IsTaken s r (appended_bytes o r) (appended o r s) × HasFreePool e (appended o r s)
    pool_by begins None is =
        let m = r.len / 32 * 32 in
        let some : 0 < m = omega arith in
        subst (λ x. IsTaken s r m x × HasFreePool e x) (sym (extended-some r.start m s some))
        (grown_if_pool w e m r some (omega arith) (omega arith) (omega arith) (omega arith) next.chunk next.is_chunk next.ends (find (ends_at r.start) s.chunks) refl)
    pool_by begins (Some most) is =
        let part = aligned_part r in
        let at : part.start ≡ r.start = omega arith in
        let fits = IsPartOf-aligned_part e r room whole (inr (begins, long)) in
        let are = AreCutFrom-cut fllen e part w.rows room short (omega arith) fits.long in
        let pool = cut_pool e (end_of_last part.start (cut (max_pool_size fllen) part)) s r part (cut (max_pool_size fllen) part) fits are in
        subst (λ a. IsTaken s r (end_of_last a (cut (Some most) part) - r.start) (with_chunks (cut (Some most) part) s) × HasFreePool e (with_chunks (cut (Some most) part) s)) at
        (subst (λ o. IsTaken s r (end_of_last part.start (cut o part) - r.start) (with_chunks (cut o part) s) × HasFreePool e (with_chunks (cut o part) s)) is pool)

-- 64 bytes or more that are appended are taken
pub appended_taken : (fllen sllen : ℕ) (memory : Range) (s t : State) (r : Range) (n : ℕ) → IsWellFormed fllen sllen memory s → IsNext memory s r → 64 ≤ r.len
    → Appends fllen s r n t → IsTaken s r n t
appended_taken fllen sllen memory s t r n w next long step =
    (appended_pool fllen sllen 64 memory s t r n w next (omega arith) refl (λ p most. most_long fllen p w.rows most) long step).0
