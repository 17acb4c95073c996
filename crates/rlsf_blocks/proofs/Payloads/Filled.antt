-- The bytes of one payload change, and no other byte: the allocator represents the state with these bytes in that payload.
use Rattle.std.proofs.Common.{◌≡◌, ◌≢◌, ℕ, ◌<◌, ◌≤◌, ◌⊎◌, length, arith, inl, inr, sym, ◌∙◌, ap}
use Rattle.std.proofs.lemmas.Bool.{cases_eq, cases_lt}
use Rattle.rlsf_base.specs.declared.memory.range.Range.{Range}
use Rattle.rlsf_base.specs.Range.{end_of}
use Rattle.rlsf_base.specs.Space.{Space, byte_range, bytes_in, out_at, range_of}
use Rattle.rlsf_base.proofs.Lending.Replaced.{byte_at-same}
use Rattle.rlsf_model.specs.Lists.{IsIn}
use Rattle.rlsf_model.specs.Run.{Fills}
use Rattle.rlsf_model.specs.State.{State, Used, usable, Holds, filled}
use Rattle.rlsf_model.specs.WellFormed.{IsUsed, IsWellFormed}
use Rattle.rlsf_model.proofs.Changes.{Holds-unique}
use Rattle.rlsf_model.proofs.Coverage.{IsIn-map, map-same}
use Rattle.rlsf_model.proofs.Fillings.{filled_if-here, filled_if-other}
use Rattle.rlsf_model.proofs.Payloads.{IsUsed-after_start, IsUsed-some}
use Rattle.rlsf_model.proofs.Names.{used_with_bytes, filled_if}
use Rattle.rlsf_blocks.specs.Laws.{DiffersInPayloads, read_from, with_bytes_of}
use Rattle.rlsf_blocks.specs.Spare.{KeepsSpare}
use Rattle.rlsf_blocks.specs.StandsFor.{Contents, StandsFor}
use Rattle.rlsf_blocks.proofs.Payloads.Unlent.{stands_unlent}
use Rattle.rlsf_blocks.proofs.Words.Apart.{used_used, home_of_used, used_in_memory}
use Rattle.rlsf_blocks.proofs.Words.Frames.{sides}

-- the memory stays where it is, and the bytes of what has no address in common with a range, and what they are, stay
pub record IsSameOutside (m n : Space) (r : Range) : Type 0 where
  pub start : n.start ≡ m.start
  pub length : length n.bytes ≡ length m.bytes
  pub bytes : (q : Range) → m.start ≤ q.start → (end_of q ≤ r.start) ⊎ (end_of r ≤ q.start) → bytes_in n q ≡ bytes_in m q
  pub out : (a : ℕ) → m.start ≤ a → (a < r.start) ⊎ (end_of r ≤ a) → out_at n a ≡ out_at m a

module _ {fllen sllen : ℕ} {v : Contents} {s : State} (old : StandsFor fllen sllen v s) (addr : ℕ) (u : Used) (holds : Holds s addr u) (n : Space)
    (same : IsSameOutside v.memory n (usable u)) where
  w : IsWellFormed fllen sllen (range_of v.memory) s
  w = old.well_formed

  is : IsUsed u
  is = w.used u holds.0

  differs : DiffersInPayloads v.memory n s
  differs = record {
    start = same.start;
    length = same.length;
    bytes =
        λ a from unlent. byte_at-same v.memory n a
        (same.bytes (byte_range a) from (elim (unlent u holds.0) [ inl before ↦ inl (omega (arith, before)) | inr behind ↦ inr (omega (arith, behind, is.within)) ]));
    out = λ a from unlent. same.out a from (elim (unlent u holds.0) [ inl before ↦ inl before | inr behind ↦ inr (omega (arith, behind, is.within)) ]);
  }

  all : StandsFor fllen sllen (record v { memory = n }) (read_from n s)
  all = stands_unlent old differs

  -- no other payload has other bytes
  bytes_in-other : (x : Used) → IsIn x s.used → x.payload ≢ addr → bytes_in n (usable x) ≡ x.bytes
  bytes_in-other x i other =
      let mine = w.used x i in
      let apart = sides x.block u.block (IsUsed-some x mine) (IsUsed-some u is) (λ a hx hu. other (ap (λ y. y.payload) (used_used w x u a i holds.0 hx hu) ∙ holds.1)) in
      same.bytes (usable x) (omega (arith, (used_in_memory w x i).0)) (elim apart [
        | inl before ↦ inl (omega (arith, before, IsUsed-after_start u is, mine.within))
        | inr behind ↦ inr (omega (arith, behind, IsUsed-after_start x mine, is.within))
      ]) ∙ old.payloads.bytes x i

  -- the state with the bytes that are there now in this payload is that with the bytes that are there in all payloads
  pub filled-read_from : filled s addr (bytes_in n (usable u)) ≡ read_from n s
  filled-read_from = λ k. record { chunks = s.chunks; used = map-same (filled_if addr (bytes_in n (usable u))) (with_bytes_of n) s.used reads k; free = s.free }
    where
      reads : (x : Used) → IsIn x s.used → filled_if addr (bytes_in n (usable u)) x ≡ with_bytes_of n x
      reads x i = elim (cases_eq x.payload addr) [
        | inl at ↦ filled_if-here addr (bytes_in n (usable u)) x at ∙ ap (λ y. used_with_bytes x (bytes_in n (usable y))) (Holds-unique w addr u x holds (i, at))
        | inr other ↦ filled_if-other addr (bytes_in n (usable u)) x other ∙ ap (used_with_bytes x) (sym (bytes_in-other x i other))
      ]

  fills : Fills s addr (bytes_in n (usable u)) (read_from n s)
  fills = record {
    block = u;
    holds = holds;
    length = (all.well_formed.used (with_bytes_of n u) (IsIn-map (with_bytes_of n) u s.used holds.0)).bytes ∙ sym is.bytes;
    after = sym filled-read_from;
  }

  -- a spare byte is no byte of the payload
  spare : KeepsSpare v.memory s n (read_from n s)
  spare a from to before after = differs.bytes a from (λ x i. elim (cases_lt a x.payload) [
    | inl low ↦ inl low
    | inr high ↦ elim (cases_lt a (end_of x.block)) [
      | inr behind ↦ inr behind
      | inl within ↦
          let home = home_of_used w x i in
          let deep = IsUsed-after_start x (w.used x i) in
          let past = before home.chunk home.is_chunk (omega (arith, home.from)) (omega (arith, home.to)) in
          absurd (omega (arith, home.to, past))
    ]
  ])

  -- the state read from the memory is the one with the bytes that are there now
  pub filled_in : Fills s addr (bytes_in n (usable u)) (read_from n s) × StandsFor fllen sllen (record v { memory = n }) (read_from n s) × KeepsSpare v.memory s n (read_from n s)
  filled_in = (fills, all, spare)

  pub stands_filled : (t : State) × Fills s addr (bytes_in n (usable u)) t × StandsFor fllen sllen (record v { memory = n }) t × KeepsSpare v.memory s n t
  stands_filled = (read_from n s, fills, all, spare)
