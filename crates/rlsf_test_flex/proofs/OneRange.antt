-- What a range has room for. If a payload of one byte is in it, another one has room exactly if the range has 96 bytes or more.
use Rattle.std.proofs.Common.{◌≡◌, ℕ, zero, suc, ◌+◌, ◌-◌, ◌*◌, ◌/◌, ◌%◌, ◌<◌, ◌≤◌, ◌⊎◌, cond, List, [], ◌∷◌, length, Some, None}
use Rattle.std.proofs.Common.{arith, refl, sym, ◌∙◌, ap, subst, inl, inr}
use Rattle.std.proofs.lemmas.Bool.{cases_lt, le-leb, lt-leb}
use Rattle.std.proofs.lemmas.List.{length-append}
use Rattle.std.proofs.lemmas.List.Sums.{sum_by-append, sum_by-cons}
use Rattle.rlsf_base.specs.declared.memory.range.Range.{Range}
use Rattle.rlsf_base.specs.Range.{end_of, range_at}
use Rattle.rlsf_model_sizes.specs.Rounding.{round32}
use Rattle.rlsf_model_sizes.specs.SizeClass.{class_of, Reaches}
use Rattle.rlsf_base.proofs.Numbers.Roundings.{round32-same}
use Rattle.rlsf_base.proofs.SizeClasses.Reach.{Reaches-from_slack}
use Rattle.rlsf_model.specs.Allocate.{choice, placed, Places}
use Rattle.rlsf_model.specs.Budget.{total_len, used_bytes}
use Rattle.rlsf_model.specs.Insert.{adjacent, aligned_part, cut, remainder, with_chunks, Inserts}
use Rattle.rlsf_model.specs.Lists.{IsIn}
use Rattle.rlsf_model.specs.Payload.{payload_of}
use Rattle.rlsf_model.specs.State.{State, Used, empty}
use Rattle.rlsf_model.specs.WellFormed.{IsWellFormed}
use Rattle.rlsf_model.proofs.Choices.{choice-none, choice-from_none}
use Rattle.rlsf_model.proofs.Chunks.{chunks-allocated, used-inserted}
use Rattle.rlsf_model.proofs.Payloads.{payload_of-after, payload_of-le}
use Rattle.rlsf_model.proofs.Sums.{bytes_add_up}
use Rattle.rlsf_model.proofs.Names.{with_chunk}

-- ---- the chunks of a range

adjacent-sums : (n at len : ℕ) → (total_len (adjacent at len n) ≡ n * len) × (length (adjacent at len n) ≡ n)
adjacent-sums zero at len = (omega arith, refl)
adjacent-sums (suc n) at len =
    let (total, many) = adjacent-sums n (at + len) len in
    (omega (arith, total, sum_by-cons (λ (r : Range). r.len) (range_at at len) (adjacent (at + len) len n)), omega (arith, many))

remainder-sums : (at len : ℕ)
    → ((len < 64) × (total_len (remainder at len) ≡ 0) × (length (remainder at len) ≡ 0))
    ⊎ ((64 ≤ len) × (total_len (remainder at len) ≡ len) × (length (remainder at len) ≡ 1))
remainder-sums at len = elim (cases_lt len 64) [
  | inl short ↦
      let is : remainder at len ≡ [] = ap (λ b. cond b (range_at at len ∷ []) []) (lt-leb 64 len short) in
      inl (short, ap total_len is, ap length is)
  | inr room ↦
      let is : remainder at len ≡ range_at at len ∷ [] = ap (λ b. cond b (range_at at len ∷ []) []) (le-leb 64 len room) in
      inr (room, omega (arith, ap total_len is, sum_by-cons (λ (r : Range). r.len) (range_at at len) []), ap length is)
]

-- chunks of 8192 bytes, and perhaps one of what is left
cut-sums : (part : Range) → (n : ℕ) × (rest : ℕ) × (part.len ≡ n * 8192 + rest)
    × (((rest < 64) × (total_len (cut (Some 8192) part) ≡ n * 8192) × (length (cut (Some 8192) part) ≡ n))
    ⊎ ((64 ≤ rest) × (total_len (cut (Some 8192) part) ≡ n * 8192 + rest) × (length (cut (Some 8192) part) ≡ n + 1)))
cut-sums part =
    let n = part.len / 8192 in
    let rest = part.len - n * 8192 in
    let (whole, many) = adjacent-sums n part.start 8192 in
    let total = sum_by-append (λ (r : Range). r.len) (adjacent part.start 8192 n) (remainder (part.start + n * 8192) rest) in
    let count = length-append (adjacent part.start 8192 n) (remainder (part.start + n * 8192) rest) in (
      n,
      rest,
      omega arith,
      elim (remainder-sums (part.start + n * 8192) rest) [
        | inl (short, last, none) ↦ inl (short, omega (arith, total, whole, last), omega (arith, count, many, none))
        | inr (room, last, one) ↦ inr (room, omega (arith, total, whole, last), omega (arith, count, many, one))
      ],
    )

chunks-sums : (cs : List Range) (s : State)
    → (total_len (with_chunks cs s).chunks ≡ total_len cs + total_len s.chunks) × (length (with_chunks cs s).chunks ≡ length cs + length s.chunks)
chunks-sums [] s = (omega arith, omega arith)
chunks-sums (c ∷ cs) s =
    let (total, many) = chunks-sums cs (with_chunk c s) in
    (omega (arith, total, sum_by-cons (λ (r : Range). r.len) c cs, sum_by-cons (λ (r : Range). r.len) c s.chunks), omega (arith, many))

-- ---- free ranges

some_free : (fs : List Range) → 0 < total_len fs → (f : Range) × IsIn f fs
some_free [] some = absurd (omega (arith, some))
some_free (f ∷ fs) some = (f, inl refl)

none_free : (fs : List Range) → total_len fs ≡ 0 → ((f : Range) → IsIn f fs → 0 < f.len) → (g : Range) → IsIn g fs → ⊥
none_free [] none some g i = i
none_free (f ∷ fs) none some g i = omega (arith, none, some f (inl refl), sum_by-cons (λ (r : Range). r.len) f fs)

reaches_32 : (len : ℕ) → 0 < len → len % 32 ≡ 0 → Reaches 8 (class_of 8 len) 32
reaches_32 len some whole = elim (cases_lt len 64) [
  | inl short ↦ let is : len ≡ 32 = omega arith in subst (λ n. Reaches 8 (class_of 8 n) 32) (sym is) (omega arith)
  | inr long ↦ Reaches-from_slack 8 len some 32 (omega arith)
]

-- ---- what one payload leaves of a range

module _ {memory : Range} (m s : State) (r : Range) (len addr : ℕ) (w : IsWellFormed 8 8 memory s) (inserts : Inserts 8 empty r (Some len) m) (places : Places 8 m 1 1 addr s)
    (aligned : r.start % 32 ≡ 0) (long : 64 ≤ r.len) where
  abbrev block : Used
  block = placed places.range 1 1 places.bytes

  used_is : s.used ≡ block ∷ []
  used_is = ap (λ (x : State). x.used) places.after ∙ ap (λ l. block ∷ l) (used-inserted 8 empty m r (Some len) inserts)

  block_len : block.block.len ≡ 32
  block_len =
      let is = w.used block (subst (IsIn block) (sym used_is) (inl refl)) in
      let start = places.range.start in
      let begins : payload_of start 1 - start + 1 ≡ 17 = omega (arith, payload_of-after start 1, payload_of-le start 1 is.whole.start is.power) in
      ap round32 begins

  -- the free bytes
  left : total_len s.free + 32 + 32 * length (cut (Some 8192) (aligned_part r)) ≡ total_len (cut (Some 8192) (aligned_part r))
  left =
      let cs = cut (Some 8192) (aligned_part r) in
      let (total, many) = chunks-sums cs empty in
      let same : s.chunks ≡ (with_chunks cs empty).chunks = chunks-allocated 8 m s 1 1 (Some addr) places ∙ ap (λ (x : State). x.chunks) inserts.after in
      omega (
        arith,
        bytes_add_up 8 8 memory s w,
        ap used_bytes used_is,
        sum_by-cons (λ (u : Used). u.block.len) block [],
        block_len,
        ap total_len same,
        ap length same,
        total,
        many,
      )

  part_len : (aligned_part r).len ≡ r.len / 32 * 32
  part_len = let is : (aligned_part r).len ≡ (r.start + r.len - r.start) / 32 * 32 = ap (λ n. (end_of r - n) / 32 * 32) (round32-same r.start aligned) in omega (arith, is)

  pub short_is_full : r.len < 96 → choice 8 32 s.free ≡ None
  short_is_full short =
      let (n, rest, is, sums) = cut-sums (aligned_part r) in
      let none : total_len s.free ≡ 0 = elim sums [
        | inl (few, total, many) ↦ omega (arith, is, part_len, short, long, few)
        | inr (room, total, many) ↦ omega (arith, is, part_len, short, long, left, total, many)
      ] in
      choice-from_none 8 32 s.free (λ g i reached. none_free s.free none (λ f j. (w.free f j).some) g i)

  pub long_has_room : 96 ≤ r.len → choice 8 32 s.free ≡ None → ⊥
  long_has_room more full =
      let (n, rest, is, sums) = cut-sums (aligned_part r) in
      let some : 0 < total_len s.free = elim sums [
        | inl (few, total, many) ↦ omega (arith, is, part_len, more, left, total, many, few)
        | inr (room, total, many) ↦ omega (arith, is, part_len, more, left, total, many, room)
      ] in
      let (f, i) = some_free s.free some in
      choice-none 8 32 s.free full f i (reaches_32 f.len (w.free f i).some (w.free f i).whole.len)
