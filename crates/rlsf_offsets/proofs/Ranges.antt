-- Where live ranges of units lie, and what callers see of them.
use Rattle.std.proofs.Common.{◌≡◌, ℕ, ◌+◌, ◌-◌, ◌*◌, ◌/◌, ◌%◌, ◌^◌, ◌<◌, ◌≤◌, List, length, Option, Some, None, IsSome, true≢false, arith, inl, inr, refl, sym, ◌∙◌, ap, subst}
use Rattle.std.proofs.lemmas.Bool.{cases_lt}
use Rattle.std.proofs.lemmas.Option.{none-some}
use Rattle.std.specs.Option.{option_map}
use Rattle.rlsf_base.specs.declared.memory.range.Range.{Range}
use Rattle.rlsf_base.specs.Range.{end_of}
use Rattle.rlsf_model.specs.Callers.{align_at, bytes_at}
use Rattle.rlsf_model.specs.Lists.{IsIn}
use Rattle.rlsf_model.specs.State.{State, Used}
use Rattle.rlsf_model.specs.WellFormed.{covers, IsWellFormed}
use Rattle.rlsf_model.proofs.CallerWords.{align_at-live, bytes_at-held}
use Rattle.rlsf_model.proofs.Coverage.{covers-inside, coverage-unique}
use Rattle.rlsf_model.proofs.Payloads.{IsUsed-some}
use Rattle.rlsf_model.proofs.Tiling.{block_of, tiling_of, used-le, lies_in_chunk, IsPart-used}
use Rattle.rlsf_tlsf.specs.Allocator.{Allocator}
use Rattle.rlsf_offsets.specs.Units.{AreWhole, align_of, IsShadow, IsSpace, Offsets, offsets, place, units_at, whole_shadow}

module _ {fllen sllen : ℕ} {memory : Range} {s : State} (w : IsWellFormed fllen sllen memory s) (whole : AreWhole s) where
  -- where the block of a used block lies
  pub record IsSeated (u : Used) : Type 0 where
    pub payload : u.payload % 32 ≡ 0
    pub front : u.block.start + 32 ≤ u.payload
    pub low : memory.start ≤ u.block.start
    pub chunk : Range
    pub is_chunk : IsIn chunk s.chunks
    pub high : end_of u.block + 32 ≤ end_of chunk
    pub len : length u.bytes + u.payload ≡ end_of u.block
    pub whole_len : length u.bytes % 32 ≡ 0

  pub seated : (u : Used) → IsIn u s.used → IsSeated u
  seated u i =
      let is = w.used u i in
      let even = (whole u i).0 in
      let len = is.whole.len in
      let home = lies_in_chunk s (tiling_of w) u.block (IsUsed-some u is) (IsPart-used s (tiling_of w) u i) in
      let chunk = w.chunks home.chunk home.is_chunk in
      record {
        payload = even;
        front = omega arith;
        low = omega (arith, chunk.lies_in.0);
        chunk = home.chunk;
        is_chunk = home.is_chunk;
        high = omega arith;
        len = omega arith;
        whole_len = omega arith;
      }

  -- the ranges of two used blocks, each from 32 bytes before its payload on, have no byte in common
  pub seated_apart : (u v : Used) → IsIn u s.used → IsIn v s.used → u.payload < v.payload → u.payload + length u.bytes ≤ v.payload - 32
  seated_apart u v iu iv less =
      let su = seated u iu in
      let sv = seated v iv in
      elim (cases_lt (v.payload - 32) (u.payload + length u.bytes)) [
        | inl over ↦
            let a = v.payload - 32 in
            let one : covers u.block a ≡ 1 = covers-inside u.block a (omega arith) (omega arith) in
            let two : covers v.block a ≡ 1 = covers-inside v.block a (omega arith) (omega arith) in
            let same = coverage-unique block_of u v s.used a (used-le s (tiling_of w) a) iu iv one two in
            absurd (omega (arith, ap (λ (x : Used). x.payload) same))
        | inr fits ↦ fits
      ]

-- the one chunk is the shadow of the units of the space
pub chunk_is : {units : ℕ} {a : Allocator} → IsShadow units a → (c : Range) → IsIn c a.state.chunks → c ≡ whole_shadow units
chunk_is {units} {a} is c i = elim (cases_lt 0 units) [
  | inl some ↦ elim (subst (IsIn c) (is.chunks some) i) [ inl same ↦ same | inr more ↦ absurd more ]
  | inr none ↦ absurd (subst (IsIn c) (is.none (omega arith)) i)
]

pub chunk_end : {units : ℕ} {a : Allocator} → IsShadow units a → (c : Range) → IsIn c a.state.chunks → end_of c ≡ 2 ^ 62 + 32 * units
chunk_end {units} is c i = omega (arith, ap (λ (r : Range). end_of r) (chunk_is is c i))

-- a live range is a used block
pub record IsPiece (s : State) (offset units : ℕ) : Type 0 where
  pub block : Used
  pub is_in : IsIn block s.used
  pub at : block.payload ≡ place offset
  pub len : units ≡ length block.bytes / 32 + 1

pub piece_of : {fllen sllen : ℕ} {memory : Range} (v : Offsets) → IsWellFormed fllen sllen memory v.shadow.state → (o n : ℕ) → units_at v o ≡ Some n
    → IsPiece v.shadow.state o n
unfolding units_at
piece_of v w o n is = go (align_at v.shadow.state (place o)) refl is
  where
    go : (x : Option ℕ) → align_at v.shadow.state (place o) ≡ x → option_map (λ (align : ℕ). length (bytes_at v.shadow.state (place o)) / 32 + 1) x ≡ Some n
        → IsPiece v.shadow.state o n
    go None e told = absurd (none-some n told)
    go (Some align) e told =
        let (u, held, same) = align_at-live v.shadow.state (place o) align e in
        let count : length (bytes_at v.shadow.state (place o)) / 32 + 1 ≡ n = cc in
        record { block = u; is_in = held.0; at = held.1; len = sym count ∙ ap (λ (l : List ℕ). length l / 32 + 1) (bytes_at-held w (place o) u held) }

pub IsSpace-shadow : {units : ℕ} {a : Allocator} → IsShadow units a → IsSpace (offsets units a)
IsSpace-shadow {units} {a} is =
    let w = is.stands.well_formed in
    let v = offsets units a in
    record {
      inside = λ o n told.
          let p = piece_of v w o n told in
          let b = seated w is.whole p.block p.is_in in
          let ends = chunk_end is b.chunk b.is_chunk in
          (omega arith, omega arith);
      apart = λ o n p m told told' other.
          let x = piece_of v w o n told in
          let y = piece_of v w p m told' in
          let bx = seated w is.whole x.block x.is_in in
          let by = seated w is.whole y.block y.is_in in
          elim (cases_lt o p) [
            | inl less ↦ inl (omega (arith, seated_apart w is.whole x.block y.block x.is_in y.is_in (omega arith)))
            | inr more ↦ elim (cases_lt p o) [
              | inl less ↦ inr (omega (arith, seated_apart w is.whole y.block x.block y.is_in x.is_in (omega arith)))
              | inr same ↦ absurd (other (omega arith))
            ]
          ];
    }

-- ---- words of callers

pub units_at-live : (v : Offsets) (o align : ℕ) → align_at v.shadow.state (place o) ≡ Some align
    → units_at v o ≡ Some (length (bytes_at v.shadow.state (place o)) / 32 + 1)
unfolding units_at
units_at-live v o align e = ap (option_map (λ (x : ℕ). length (bytes_at v.shadow.state (place o)) / 32 + 1)) e

pub units_at-none : (v : Offsets) (o : ℕ) → align_at v.shadow.state (place o) ≡ None → units_at v o ≡ None
unfolding units_at
units_at-none v o e = ap (option_map (λ (x : ℕ). length (bytes_at v.shadow.state (place o)) / 32 + 1)) e

pub units_at-same : (v x : Offsets) (o : ℕ) → align_at x.shadow.state (place o) ≡ align_at v.shadow.state (place o)
    → bytes_at x.shadow.state (place o) ≡ bytes_at v.shadow.state (place o) → units_at x o ≡ units_at v o
unfolding units_at
units_at-same v x o e f = λ i. option_map (λ (y : ℕ). length (f i) / 32 + 1) (e i)

pub align_of-live : (v : Offsets) (o align : ℕ) → align_at v.shadow.state (place o) ≡ Some align → align_of v o ≡ Some (align / 32)
unfolding align_of
align_of-live v o align e = ap (option_map (λ (x : ℕ). x / 32)) e

pub align_of-same : (v x : Offsets) (o : ℕ) → align_at x.shadow.state (place o) ≡ align_at v.shadow.state (place o) → align_of x o ≡ align_of v o
unfolding align_of
align_of-same v x o e = ap (option_map (λ (y : ℕ). y / 32)) e

pub align_of-none : (v : Offsets) (o : ℕ) → align_at v.shadow.state (place o) ≡ None → align_of v o ≡ None
unfolding align_of
align_of-none v o e = ap (option_map (λ (y : ℕ). y / 32)) e

-- a live offset lies in the space, and a payload is live at its place
pub live_place : {units : ℕ} {a : Allocator} → IsShadow units a → (o : ℕ) → IsSome (units_at (offsets units a) o) → (o < units) × IsSome (align_at a.state (place o))
unfolding units_at
live_place {units} {a} is o some = go (align_at a.state (place o)) refl some
  where
    go : (x : Option ℕ) → align_at a.state (place o) ≡ x → IsSome (option_map (λ (y : ℕ). length (bytes_at a.state (place o)) / 32 + 1) x)
        → (o < units) × IsSome (align_at a.state (place o))
    go None e told = absurd (true≢false (sym told))
    go (Some align) e told =
        let inside = (IsSpace-shadow is).inside o (length (bytes_at a.state (place o)) / 32 + 1) (units_at-live (offsets units a) o align e) in
        (omega (arith, inside.0, inside.1), subst IsSome (sym e) refl)

pub live_units : (units : ℕ) (a : Allocator) (o count : ℕ) → IsSome (align_at a.state (place o)) → count ≡ length (bytes_at a.state (place o))
    → units_at (offsets units a) o ≡ Some (count / 32 + 1)
live_units units a o count some is = go (align_at a.state (place o)) refl some
  where
    go : (x : Option ℕ) → align_at a.state (place o) ≡ x → IsSome x → units_at (offsets units a) o ≡ Some (count / 32 + 1)
    go None e told = absurd (true≢false (sym told))
    go (Some align) e told = units_at-live (offsets units a) o align e ∙ ap (λ l. Some (l / 32 + 1)) (sym is)
