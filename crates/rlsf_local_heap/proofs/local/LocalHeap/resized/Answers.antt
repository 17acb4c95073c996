use Rattle.std.proofs.Common.{ℕ, ◌≡◌, ◌*◌, ◌≤◌, min, arith, rules, sym, ap, ◌∙◌, inl, inr}
use Rattle.std.proofs.lemmas.Bool.{cases_lt}
use Rattle.std.proofs.lemmas.Nat.{mul-le}
use Rattle.core.specs.Mem.{type_size}
use Rattle.rlsf_heap.specs.Units.{payload_len}
use Rattle.rlsf_local_heap.proofs.Outcomes.{each_result}
use Rattle.rlsf_local_heap.proofs.local.LocalHeap.resized.Goals as goal

longer : (n k : ℕ) → n ≤ k → payload_len n ≤ payload_len k
longer n k le = omega (arith, le)

-- the payload for the lesser of two numbers of places has the lesser of their lengths
payload_len-min : (a b s : ℕ) → payload_len (min a b * s) ≡ min (payload_len (a * s)) (payload_len (b * s))
payload_len-min a b s = elim (cases_lt a b) [
  | inl lt ↦ (let same : min a b ≡ a = omega (arith, lt) in let le = longer (a * s) (b * s) (mul-le a s b s (omega (arith, lt)) (omega arith)) in
      ap (λ n. payload_len (n * s)) same ∙ omega (arith, le))
  | inr le ↦ (let same : min a b ≡ b = omega (arith, le) in let le = longer (b * s) (a * s) (mul-le b s a s le (omega arith)) in
      ap (λ n. payload_len (n * s)) same ∙ omega (arith, le))
]

pub lend-seats-requires : goal.lend-seats-requires
lend-seats-requires g c =
    let (heap, count, cap) = c.requires.buffer in let (here, fits, old_small, small) = c.requires.sizes in
    (c.array_len-whole.ensures ∙ ap (λ n. payload_len (n * type_size g.row.T)) (sym cap), omega (arith, count, here, fits, c.min.ensures), omega (arith, cap, c.min.ensures))

pub resize-requires : goal.resize-requires
resize-requires g c =
    let (heap, count, cap) = c.requires.buffer in let (here, fits, old_small, small) = c.requires.sizes in
    let (at, num, places, items, of, lent_at, long, kept) = c.lend-seats.ensures in record {
      heap = of ∙ heap;
      len = sym long;
      small = small;
      kept =
          let least : c.min.result ≡ min c.args.old_cap c.args.new_cap = search rules in
          kept ∙ ap (λ n. payload_len (n * type_size g.row.T)) least ∙ payload_len-min c.args.old_cap c.args.new_cap (type_size g.row.T)
          ∙ ap (λ n. min n (payload_len (c.args.new_cap * type_size g.row.T))) (sym (long ∙ c.array_len-whole.ensures));
    }

pub with-requires : goal.with-requires
with-requires g c =
    let (heap, count, cap) = c.requires.buffer in let (here, fits, old_small, small) = c.requires.sizes in
    let (at, num, places, items, of, lent_at, long, kept) = c.lend-seats.ensures in let (same_heap, same_start, same_ptr, same_kept, is_long) = c.in-Ok.ensures in record {
      place = (same_ptr ∙ lent_at ∙ sym at, is_long, same_kept ∙ kept ∙ ap (λ n. payload_len (n * type_size g.row.T)) (sym places));
      sizes = (omega (arith, count, here, fits, num, places, c.min.ensures), omega (arith, places, c.min.ensures), small);
    }

pub with-buffer-requires : goal.with-buffer-requires
with-buffer-requires g c =
    let (heap, count, cap) = c.requires.buffer in let (here, fits, old_small, small) = c.requires.sizes in
    let (at, num, places, items, of, lent_at, long, kept) = c.lend-seats.ensures in let (same_heap, same_start, same_ptr, same_kept, is_long) = c.in-Err.ensures in record {
      place = (
        same_ptr ∙ lent_at ∙ sym at,
        is_long ∙ long ∙ c.array_len-whole.ensures,
        same_kept ∙ kept ∙ ap (λ n. payload_len (n * type_size g.row.T)) (sym places),
      );
      sizes = (omega (arith, count, here, fits, num, places, c.min.ensures), omega (arith, places, c.min.ensures), old_small);
    }

pub moved-requires : goal.moved-requires
moved-requires g c =
    let (heap, count, cap) = c.requires.buffer in let (here, fits, old_small, small) = c.requires.sizes in
    let (at, num, places, items, of, lent_at, long, kept) = c.lend-seats.ensures in let (same_heap, same_start, same_ptr, same_kept, is_long) = c.in-Err.ensures in
    let (with_at, with_heap, with_num, with_cap, with_items) = c.with-buffer.ensures in record {
      buffer = (
        with_heap ∙ same_heap ∙ of ∙ heap,
        with_num ∙ num ∙ count,
        c.array_len-whole.ensures ∙ ap (λ n. payload_len (n * type_size g.row.T)) (sym with_cap),
      );
      sizes = (omega (arith, here, with_cap), fits, small);
    }

pub returns-in-Ok : goal.returns-in-Ok
returns-in-Ok g c =
    let (heap, count, cap) = c.requires.buffer in let (at, num, places, items, of, lent_at, long, kept) = c.lend-seats.ensures in
    let (with_at, with_heap, with_num, with_cap, with_items) = c.with.ensures in (with_heap ∙ c.in-Ok.ensures.0 ∙ of, with_num ∙ num ∙ count, with_cap, with_items ∙ items)

pub returns-then-old_cap-new_cap : goal.returns-then-old_cap-new_cap
returns-then-old_cap-new_cap g c =
    let (heap, count, cap) = c.requires.buffer in let (at, num, places, items, of, lent_at, long, kept) = c.lend-seats.ensures in
    let (with_at, with_heap, with_num, with_cap, with_items) = c.with-buffer.ensures in
    each_result c.moved.result (λ b is. (is.0 ∙ with_heap ∙ c.in-Err.ensures.0 ∙ of, is.1, is.2, is.3 ∙ with_items ∙ items))
    (λ b is. (is.0 ∙ with_at ∙ at, is.1 ∙ with_heap ∙ c.in-Err.ensures.0 ∙ of, is.2, is.3 ∙ with_cap, is.4 ∙ with_items ∙ items)) c.moved.ensures

pub returns-else-old_cap-new_cap : goal.returns-else-old_cap-new_cap
returns-else-old_cap-new_cap g c =
    let (heap, count, cap) = c.requires.buffer in let (at, num, places, items, of, lent_at, long, kept) = c.lend-seats.ensures in
    let (with_at, with_heap, with_num, with_cap, with_items) = c.with-buffer.ensures in
    (with_at ∙ at, with_heap ∙ c.in-Err.ensures.0 ∙ of, with_num ∙ num ∙ count, with_cap, with_items ∙ items)
