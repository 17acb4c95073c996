-- States on the way to a refusal in a chunk that is too short, and the steps between them.
use Rattle.std.specs.Option.{option_or}
use Rattle.std.proofs.Common.{◌≡◌, ℕ, ◌+◌, ◌-◌, ◌*◌, ◌/◌, ◌%◌, ◌<◌, ◌≤◌, ◌⊎◌, [], ◌∷◌, Option, Some, None, cond, arith, refl, sym}
use Rattle.std.proofs.Common.{◌∙◌, ap, subst, inl, inr}
use Rattle.std.proofs.lemmas.Bool.{cases_lt, le-leb}
use Rattle.std.proofs.Math.Nat.{div-add-mod', mod-lt, mul-le-mul_right}
use Rattle.rlsf_base.specs.declared.memory.range.Range.{Range}
use Rattle.rlsf_base.specs.Range.{end_of, range_at}
use Rattle.rlsf_model_sizes.specs.Rounding.{round32}
use Rattle.rlsf_model_sizes.specs.SizeClass.{Reaches, class_of}
use Rattle.rlsf_model_sizes.specs.Sizes.{IsSize, request_size}
use Rattle.rlsf_model.specs.Allocate.{Allocates, placed}
use Rattle.rlsf_model.specs.Lists.{IsIn}
use Rattle.rlsf_model.specs.Payload.{payload_of}
use Rattle.rlsf_model.specs.Reallocate.{Plan, Reallocates, ReallocatesBy, into_next, into_previous, plan}
use Rattle.rlsf_model.specs.Run.{allocate}
use Rattle.rlsf_model.specs.State.{State, Used, Holds, others}
use Rattle.rlsf_model.specs.WellFormed.{coverage, covers, itself, last_bytes, IsWellFormed}
use Rattle.rlsf_model.proofs.Changes.{Holds-unique, IsIn-others_from}
use Rattle.rlsf_model.proofs.Choices.{choice-some}
use Rattle.rlsf_model.proofs.Coverage.{covers-before, covers-behind, covers-inside, coverage-IsIn, coverage-none, coverage-some, coverage-unique}
use Rattle.rlsf_model.proofs.Examples.{planned_after, planned_step, refilled}
use Rattle.rlsf_model.proofs.Payloads.{IsUsed-some}
use Rattle.rlsf_model.proofs.Room.{allocation_answers}
use Rattle.rlsf_model.proofs.Steps.{steps_keep_well_formed}
use Rattle.rlsf_model.proofs.Tiling.{IsPart-free, block_of, blocks-le, free-le, lies_in_chunk, tiling_of}
use Rattle.rlsf_model.proofs.Names.{resized, moved, tail_joined}

-- ---- states

-- in the one chunk c there are, i times from its start on, a gap and a used block of `most` bytes; each used block ends at
-- an address or before it, and there one ends or the chunk begins
pub record IsAt (fllen sllen most gap : ℕ) (memory c : Range) (i p : ℕ) (s : State) : Type 0 where
  pub w : IsWellFormed fllen sllen memory s
  pub one : s.chunks ≡ c ∷ []
  pub blocks : (k : ℕ) → k < i → (u : Used) × IsIn u s.used × (u.block ≡ range_at (c.start + k * (most + gap) + gap) most)
  pub ends : (u : Used) → IsIn u s.used → end_of u.block ≤ p
  pub stop : (p ≡ c.start) ⊎ ((u : Used) × IsIn u s.used × (end_of u.block ≡ p))

module _ {fllen sllen most gap : ℕ} {memory c : Range} {i p : ℕ} {s : State} (is : IsAt fllen sllen most gap memory c i p s) where
  pub has_chunk : IsIn c s.chunks
  has_chunk = subst (IsIn c) (sym is.one) (inl refl)

  chunk_at : (a : ℕ) → coverage itself s.chunks a ≡ covers c a + 0
  chunk_at a = ap (λ l. coverage itself l a) is.one

  last_at : (a : ℕ) → coverage last_bytes s.chunks a ≡ covers (last_bytes c) a + 0
  last_at a = ap (λ l. coverage last_bytes l a) is.one

  room : 64 ≤ c.len
  room = (is.w.chunks c has_chunk).has_room

  -- a free range lies in the chunk
  pub within : (f : Range) → IsIn f s.free → (c.start ≤ f.start) × (end_of f + 32 ≤ end_of c) × (0 < f.len)
  within f j =
      let some = (is.w.free f j).some in
      let home = lies_in_chunk s (tiling_of is.w) f some (IsPart-free s (tiling_of is.w) f j) in
      let from = home.from in
      let to = home.to in
      elim (subst (IsIn home.chunk) is.one home.is_chunk) [
        | inl same ↦
            let start : home.chunk.start ≡ c.start = ap (λ r. r.start) same in
            let len : home.chunk.len ≡ c.len = ap (λ r. r.len) same in
            (omega arith, omega arith, some)
        | inr none ↦ absurd none
      ]

  -- from the address on all is free
  free_at : (a : ℕ) → p ≤ a → c.start ≤ a → a < end_of c - 32 → 1 ≤ coverage itself s.free a
  free_at a past from below =
      let long = room in
      let no_used = coverage-none block_of s.used a (λ u j. covers-behind u.block a (omega (arith, is.ends u j))) in
      omega (arith, is.w.tiled a, no_used, last_at a, covers-before (last_bytes c) a (omega arith), chunk_at a, covers-inside c a from (omega arith))

  -- no free range begins before it and ends behind it
  no_straddle : c.start ≤ p → (f : Range) → IsIn f s.free → p < end_of f → p ≤ f.start
  no_straddle from f j high = elim (cases_lt f.start p) [
    | inr later ↦ later
    | inl earlier ↦ elim is.stop [
      | inl at ↦ absurd (omega (arith, (within f j).0))
      | inr (u, k, end) ↦
          let some = IsUsed-some u (is.w.used u k) in
          absurd (omega (
            arith,
            blocks-le s (tiling_of is.w) (p - 1),
            coverage-IsIn itself f s.free (p - 1) j,
            coverage-IsIn block_of u s.used (p - 1) k,
            covers-inside f (p - 1) (omega arith) (omega arith),
            covers-inside u.block (p - 1) (omega arith) (omega arith),
          ))
    ]
  ]

  -- the free range that begins at the address has all of the chunk from there on
  rest_is_free : c.start ≤ p → p < end_of c - 32 → IsIn (range_at p (end_of c - 32 - p)) s.free
  rest_is_free from below =
      let t = tiling_of is.w in
      let (f, j, low, high) = coverage-some itself s.free p (free_at p (omega arith) from below) in
      let (f_from, f_to, f_some) = within f j in
      let begins : f.start ≡ p = omega (arith, no_straddle from f j high) in
      let ends : f.len ≡ end_of c - 32 - p = elim (cases_lt (end_of f) (end_of c - 32)) [
        | inr long ↦ omega arith
        | inl short ↦
            let (g, k, g_low, g_high) = coverage-some itself s.free (end_of f) (free_at (end_of f) (omega arith) (omega arith) short) in
            elim (cases_lt g.start (end_of f)) [
              | inr at ↦ absurd (is.w.apart f g j k (omega arith))
              | inl overlaps ↦
                  let both : f ≡ g =
                  coverage-unique itself f g s.free (end_of f - 1) (free-le s t (end_of f - 1)) j k (covers-inside f (end_of f - 1) (omega arith) (omega arith))
                  (covers-inside g (end_of f - 1) (omega arith) (omega arith)) in
                  let same : end_of f ≡ end_of g = ap end_of both in
                  absurd (omega arith)
            ]
      ] in
      let whole : f ≡ range_at p (end_of c - 32 - p) = λ k. record { start = begins k; len = ends k } in
      subst (λ r. IsIn r s.free) whole j

  -- a free range that ends behind it is that one
  pub behind_is_rest : c.start ≤ p → p < end_of c - 32 → (f : Range) → IsIn f s.free → p < end_of f → f ≡ range_at p (end_of c - 32 - p)
  behind_is_rest from below f j high =
      let rest = range_at p (end_of c - 32 - p) in
      let (f_from, f_to, f_some) = within f j in
      let a = end_of f - 1 in
      coverage-unique itself f rest s.free a (free-le s (tiling_of is.w) a) j (rest_is_free from below) (covers-inside f a (omega arith) (omega arith))
      (covers-inside rest a (omega arith) (omega arith))

  -- and each other one is no longer than the gap
  pub short : 0 < most → p ≤ c.start + i * (most + gap) + gap → (f : Range) → IsIn f s.free → end_of f ≤ p → f.len ≤ gap
  short some near f j before =
      let d = most + gap in
      let (f_from, f_to, f_some) = within f j in
      let x = f.start - c.start in
      let k = x / d in
      let parts : k * d + x % d ≡ x = div-add-mod' x d in
      let less : x % d < d = mod-lt x (omega (arith, some)) in
      elim (cases_lt k i) [
        | inr more ↦ let times : i * d ≤ k * d = mul-le-mul_right d more in omega arith
        | inl fewer ↦
            let (u, h, at) = is.blocks k fewer in
            let b = c.start + k * d + gap in
            let start : u.block.start ≡ b = ap (λ r. r.start) at in
            let len : u.block.len ≡ most = ap (λ r. r.len) at in
            elim (cases_lt b (end_of f)) [
              | inr ends ↦ omega arith
              | inl over ↦ elim (cases_lt f.start b) [
                | inl low ↦ absurd (apart f u j h b (omega arith) over (omega arith) (omega arith))
                | inr high ↦ absurd (apart f u j h f.start (omega arith) (omega arith) (omega arith) (omega arith))
              ]
            ]
      ]
    where
      apart : (f : Range) (u : Used) → IsIn f s.free → IsIn u s.used → (a : ℕ) → f.start ≤ a → a < end_of f → u.block.start ≤ a → a < end_of u.block → ⊥
      apart f u j h a f_low f_high u_low u_high =
          omega (
            arith,
            blocks-le s (tiling_of is.w) a,
            coverage-IsIn itself f s.free a j,
            coverage-IsIn block_of u s.used a h,
            covers-inside f a f_low f_high,
            covers-inside u.block a u_low u_high,
          )

  -- the used blocks behind the gaps stay where another is taken away that begins behind them
  pub blocks_others : (addr : ℕ) (x : Used) → Holds s addr x → c.start + i * (most + gap) ≤ x.block.start → 0 < most → (k : ℕ) → k < i
      → (u : Used) × IsIn u (others addr s.used) × (u.block ≡ range_at (c.start + k * (most + gap) + gap) most)
  blocks_others addr x holds behind some k less =
      let (u, h, at) = is.blocks k less in
      let start : u.block.start ≡ c.start + k * (most + gap) + gap = ap (λ r. r.start) at in
      let times : (k + 1) * (most + gap) ≤ i * (most + gap) = mul-le-mul_right (most + gap) (omega arith) in (
        u,
        IsIn-others_from addr u s.used h (λ same. let is_x : u ≡ x = Holds-unique is.w addr u x (h, same) holds in
            let begins : u.block.start ≡ x.block.start = ap (λ v. v.block.start) is_x in
            absurd (before (k * (most + gap)) (i * (most + gap)) u.block.start x.block.start start behind begins (omega (arith, times)))),
        at,
      )
    where
      before : (m n a b : ℕ) → a ≡ c.start + m + gap → c.start + n ≤ b → a ≡ b → m + most + gap ≤ n → ⊥
      before m n a b start behind same times = omega arith

-- ---- steps

-- for each block there is a requested size whose sought size at an alignment of 1 is its length; and none is above the given size
pub record AreAsked (most size : ℕ) (asks : ℕ → ℕ) : Type 0 where
  pub seeks : (len : ℕ) → IsSize len → len ≤ most → round32 (asks len + 16) ≡ len
  pub small : (len : ℕ) → IsSize len → len ≤ most → asks len ≤ size

pub asked : (z len : ℕ) → round32 (z + 16) ≡ len → request_size z 1 ≡ len
asked z len seeks = grind arith

-- a used block of so many bytes, with its payload 16 bytes behind its start
pub record IsPlain (from len : ℕ) (u : Used) : Type 0 where
  pub block : u.block ≡ range_at from len
  pub payload : u.payload ≡ from + 16
  pub align : u.align ≡ 1

-- a block of so many bytes is taken from an address on, for the size z
pub record Gave (sllen : ℕ) (s : State) (from len z : ℕ) : Type 0 where
  pub after : State
  pub addr : ℕ
  pub new : Used
  pub step : Allocates sllen s z 1 (Some addr) after
  pub chunks : after.chunks ≡ s.chunks
  pub used : after.used ≡ new ∷ s.used
  pub plain : IsPlain from len new

module _ {fllen sllen most gap z : ℕ} {memory c : Range} (most_is : IsSize most) (seeks : round32 (z + 16) ≡ most)
    (unreach : (n : ℕ) → 0 < n → n ≤ gap → Reaches sllen (class_of sllen n) most → ⊥) where
  -- a block is taken from the front of the rest, or none is
  pub gives : {i p : ℕ} {s : State} → IsAt fllen sllen most gap memory c i p s → c.start ≤ p → p ≤ c.start + i * (most + gap) + gap
      → Allocates sllen s z 1 None s ⊎ Gave sllen s p most z
  gives {i} {p} {s} is from near =
      let (reply, t, step) = allocation_answers sllen s z 1 in
      go reply t step
    where
      rest : Range
      rest = range_at p (end_of c - 32 - p)

      go : (reply : Option ℕ) (t : State) → Allocates sllen s z 1 reply t → Allocates sllen s z 1 None s ⊎ Gave sllen s p most z
      go None t step = inl (step.0, refl)
      go (Some addr) t step =
          let f = step.range in
          let chosen = choice-some sllen (request_size z 1) s.free f step.chosen in
          let reached : Reaches sllen (class_of sllen f.len) most = subst (Reaches sllen (class_of sllen f.len)) (asked z most seeks) chosen.reached in
          let is_rest : f ≡ rest = elim (cases_lt p (end_of f)) [
            | inl behind ↦ behind_is_rest is from (let (f_from, f_to, f_some) = within is f chosen.is_in in omega arith) f chosen.is_in behind
            | inr before ↦ absurd (unreach f.len (is.w.free f chosen.is_in).some (short is most_is.0 near f chosen.is_in before) reached)
          ] in
          let v = placed f z 1 step.bytes in
          let start : f.start ≡ p = ap (λ r. r.start) is_rest in
          let payload : payload_of f.start 1 ≡ p + 16 = omega (arith, start) in
          let len : payload_of f.start 1 - f.start + z ≡ z + 16 = omega (arith, start, payload) in
          let whole : round32 (payload_of f.start 1 - f.start + z) ≡ most = ap round32 len ∙ seeks in
          inr (record {
            after = t;
            addr = addr;
            new = v;
            step = step;
            chunks = ap (λ x. x.chunks) step.after;
            used = ap (λ x. x.used) step.after;
            plain = record { block = λ k. record { start = start k; len = whole k }; payload = payload; align = refl };
          })

  -- and all used blocks end where it does
  pub at_given : {i p : ℕ} {s : State} → IsAt fllen sllen most gap memory c i p s → (g : Gave sllen s p most z) → IsAt fllen sllen most gap memory c i (p + most) g.after
  at_given {i} {p} {s} is g =
      let new_end : end_of g.new.block ≡ p + most = ap end_of g.plain.block in record {
        w = steps_keep_well_formed fllen sllen memory s g.after (allocate z 1 (Some g.addr)) is.w refl g.step;
        one = g.chunks ∙ is.one;
        blocks = λ k less. let (u, h, at) = is.blocks k less in (u, subst (IsIn u) (sym g.used) (inr h), at);
        ends = λ u h. elim (subst (IsIn u) g.used h) [ inl same ↦ omega (arith, ap (λ x. end_of x.block) same, new_end) | inr old ↦ omega (arith, is.ends u old) ];
        stop = inr (g.new, subst (IsIn g.new) (sym g.used) (inl refl), new_end);
      }

-- a plain block is made shorter in place, for the size z
pub record Shrunk (sllen : ℕ) (s : State) (from len z : ℕ) : Type 0 where
  pub after : State
  pub addr : ℕ
  pub new : Used
  pub step : Reallocates sllen s (from + 16) z (Some addr) after
  pub chunks : after.chunks ≡ s.chunks
  pub used : after.used ≡ new ∷ others (from + 16) s.used
  pub plain : IsPlain from len new

pub shrinks : (fllen sllen : ℕ) (memory : Range) (s : State) (u : Used) (from old len z : ℕ) → IsIn u s.used → IsPlain from old u → round32 (z + 16) ≡ len
    → len ≤ old → Shrunk sllen s from len z
shrinks fllen sllen memory s u from old len z h plain seeks less =
    let start : u.block.start ≡ from = ap (λ r. r.start) plain.block in
    let end : end_of u.block ≡ from + old = ap end_of plain.block in
    let sum : u.payload - u.block.start + z ≡ z + 16 = omega (arith, start, plain.payload) in
    let long : round32 (u.payload - u.block.start + z) ≡ len = ap round32 sum ∙ seeks in
    let block : resized u z ≡ range_at from len = λ k. record { start = start k; len = long k } in
    let fits : end_of (resized u z) ≤ end_of u.block = omega (arith, start, end, long, less) in
    let p : Plan = record { block = resized u z; payload = u.payload; free = tail_joined (resized u z) (end_of u.block) s.free } in
    let planned : plan s u z ≡ Some p =
    ap (λ b. option_or (cond b (Some p) None) (option_or (into_next s u z) (into_previous s u z))) (le-leb (end_of (resized u z)) (end_of u.block) fits) in
    let t = planned_after sllen s u z (Some p) in
    record {
      after = t;
      addr = u.payload;
      new = moved u p (refilled (end_of p.block - p.payload) u.bytes);
      step =
          record {
            block = u;
            holds = (h, plain.payload);
            step = subst (λ o. ReallocatesBy sllen s u z o (Some u.payload) t) (sym planned) (planned_step fllen sllen memory s u h z (Some p));
          };
      chunks = refl;
      used = ap (λ a. moved u p (refilled (end_of p.block - p.payload) u.bytes) ∷ others a s.used) plain.payload;
      plain = record { block = block; payload = plain.payload; align = plain.align };
    }
