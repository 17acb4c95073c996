-- Bytes are left in a payload that was lent: nothing else changes, and the allocator represents the state with these bytes.
use Rattle.std.proofs.Common.{◌≡◌, ◌≢◌, ℕ, List, length, refl, sym, ◌∙◌, ap, subst}
use Rattle.rlsf_base.specs.declared.memory.range.Range.{Range}
use Rattle.rlsf_base.specs.Lends.{lent_space}
use Rattle.rlsf_base.specs.Range.{LiesIn}
use Rattle.rlsf_base.specs.Space.{Space, bytes_in}
use Rattle.rlsf_base.proofs.Lending.Lent.{bytes_in-lent, bytes_in-lent_space, length-lent_space}
use Rattle.rlsf_model.specs.Callers.{align_at, bytes_at}
use Rattle.rlsf_model.specs.Run.{Fills}
use Rattle.rlsf_model.specs.State.{State, Used, usable, Holds}
use Rattle.rlsf_model.specs.Sized.{IsSizedFor, live_bytes, live_count}
use Rattle.rlsf_model.proofs.CallerWords.{filled_seen}
use Rattle.rlsf_model.proofs.SizedWords.{count_filled, sized_filled}
use Rattle.rlsf_table.specs.Table.{Table}
use Rattle.rlsf_blocks.specs.Laws.{read_from}
use Rattle.rlsf_blocks.specs.Spare.{KeepsSpare}
use Rattle.rlsf_blocks.specs.StandsFor.{contents, StandsFor}
use Rattle.rlsf_blocks.proofs.Payloads.Filled.{IsSameOutside, filled_in}
use Rattle.rlsf_blocks.proofs.Payloads.UnknownAlignment.{IsPayloadOf-holds, LiesIn-usable}
use Rattle.rlsf_tlsf.specs.Allocator.{Allocator, allocator, IsAllocator, IsStanding, Stands, Steps}
use Rattle.rlsf_tlsf.specs.Lending.{LeavesRest, touched, written}
use Rattle.rlsf_tlsf.proofs.Arrivals.{IsAllocator-arrived, bare-reread, read_from-read_from}
use Rattle.rlsf_tlsf.proofs.LiveBytes.{bytes_filled}
use Rattle.rlsf_tlsf.proofs.Standing.{represented}

-- nothing but a range changes that was lent once more touches were counted, whatever was left there
pub IsSameOutside-lent : (m : Space) (more : ℕ) (r : Range) (w : List ℕ) → LiesIn r m.start (length m.bytes)
    → IsSameOutside m (lent_space (touched m more) r.start r.len w) r
IsSameOutside-lent m more r w placed =
    let n = touched m more in
    record { start = refl; length = length-lent_space n r w placed; bytes = bytes_in-lent_space n r w placed; out = λ a from side. refl }

-- a range is that of u's payload, which is at the address, and the list is what was there
pub record IsLent (addr : ℕ) (u : Used) (r : Range) (lent : List ℕ) : Type 0 where
  pub start : r.start ≡ addr
  pub len : r.len ≡ length lent
  pub whole : length lent ≡ (usable u).len
  pub bytes : lent ≡ u.bytes

-- what a loan of so many bytes of the payload at the address leaves, where w was left in them
pub record IsLeft (fllen sllen : ℕ) (before : Allocator) (addr len : ℕ) (w : List ℕ) (after : Allocator) : Type 0 where
  pub meaning : length w ≡ len → Steps fllen sllen before after (Fills before.state addr w)
  pub filled : length w ≡ len → bytes_at after.state addr ≡ w
  pub bytes : (a : ℕ) → a ≢ addr → bytes_at after.state a ≡ bytes_at before.state a
  pub aligns : align_at after.state ≡ align_at before.state
  pub count : live_count after.state ≡ live_count before.state
  pub blocks : live_bytes after.state ≡ live_bytes before.state
  pub bounds : (count size align : ℕ) → IsSizedFor sllen count size align before.state → IsSizedFor sllen count size align after.state
  pub lengths : length (bytes_at after.state addr) ≡ length (bytes_at before.state addr)
  pub rest : LeavesRest fllen sllen before after

module _ {fl_bits sl_bits fllen sllen : ℕ} {m : Space} {x : Table} {kept : State} (is : IsAllocator fl_bits sl_bits fllen sllen m x kept) (addr : ℕ) (u : Used)
    (holds : Holds (read_from m kept) addr u) where
  abbrev s : State
  s = read_from m kept

  lies : LiesIn (usable u) m.start (length m.bytes)
  lies = LiesIn-usable (IsPayloadOf-holds u refl is.stands holds)

  pub LiesIn-lent : (r : Range) → r ≡ usable u → LiesIn r m.start (length m.bytes)
  LiesIn-lent r place = subst (λ q. LiesIn q m.start (length m.bytes)) (sym place) lies

  -- the memory, where w was left in the payload
  abbrev left_in : List ℕ → Space
  left_in w = lent_space (touched m 3) (usable u).start (usable u).len w

  filling : (w : List ℕ) → Fills s addr (bytes_in (left_in w) (usable u)) (read_from (left_in w) s)
      × StandsFor fllen sllen (contents (left_in w) x) (read_from (left_in w) s) × KeepsSpare m s (left_in w) (read_from (left_in w) s)
  filling w = filled_in is.stands addr u holds (left_in w) (IsSameOutside-lent m 3 (usable u) w lies)

  pub IsAllocator-lent : (n : Space) → n ≡ touched m 3 → (r : Range) → r ≡ usable u → (w : List ℕ)
      → IsAllocator fl_bits sl_bits fllen sllen (lent_space n r.start r.len w) x kept
  IsAllocator-lent n read r place w =
      subst (λ k. IsAllocator fl_bits sl_bits fllen sllen (lent_space k r.start r.len w) x kept) (sym read)
      (subst (λ q. IsAllocator fl_bits sl_bits fllen sllen (lent_space (touched m 3) q.start q.len w) x kept) (sym place)
      (IsAllocator-arrived (filling w).1 kept (bare-reread (left_in w) is) is.whole is.valid))

  pub is_lent : (r : Range) → r ≡ usable u → (lent : List ℕ) → lent ≡ bytes_in m r → IsLent addr u r lent
  is_lent r place lent read =
      let here : lent ≡ u.bytes = read ∙ ap (bytes_in m) place ∙ is.stands.payloads.bytes u holds.0 in
      let long : length lent ≡ (usable u).len = ap length here ∙ (is.stands.well_formed.used u holds.0).bytes in
      record { start = ap (λ q. q.start) place ∙ holds.1; len = ap (λ q. q.len) place ∙ sym long; whole = long; bytes = here }

  -- what the allocator is once the loan has ended
  pub written-lent : (n : Space) → n ≡ touched m 3 → (r : Range) → r.start ≡ addr → (len : ℕ) → r.len ≡ len → (w : List ℕ)
      → allocator (lent_space n r.start r.len w) x kept ≡ written (allocator m x kept) addr len w
  unfolding written
  written-lent n read r start len long w =
      (λ i. allocator (lent_space (read i) (start i) (long i) w) x kept)
      ∙ ap (λ t. record { memory = lent_space (touched m 3) addr len w; table = x; state = t }) (sym (read_from-read_from (lent_space (touched m 3) addr len w) m kept))

  left : (w : List ℕ) → IsLeft fllen sllen (allocator m x kept) addr (usable u).len w (allocator (left_in w) x s)
  unfolding Stands Steps
  left w =
      let (fills, stands, spare) = filling w in
      let standing : IsStanding fllen sllen (left_in w) (read_from (left_in w) s) = represented stands is.whole in
      let seen = filled_seen is.stands.well_formed (read_from (left_in w) s) addr (bytes_in (left_in w) (usable u)) fills in
      let read : length w ≡ (usable u).len → bytes_in (left_in w) (usable u) ≡ w = λ long. bytes_in-lent (touched m 3) (usable u) w lies long in
      record {
        meaning = λ long. (subst (λ bytes. Fills s addr bytes (read_from (left_in w) s)) (read long) fills, standing, spare);
        filled = λ long. seen.here ∙ read long;
        bytes = seen.bytes;
        aligns = λ i a. seen.aligns a i;
        count = count_filled is.stands.well_formed (read_from (left_in w) s) addr (bytes_in (left_in w) (usable u)) (u, holds) fills;
        blocks = bytes_filled s (read_from (left_in w) s) addr (bytes_in (left_in w) (usable u)) fills;
        bounds =
            λ count size align sized. sized_filled is.stands.well_formed (read_from (left_in w) s) count size align sized addr (bytes_in (left_in w) (usable u)) (u, holds) fills;
        lengths = seen.lengths addr;
        rest = (refl, (refl, length-lent_space (touched m 3) (usable u) w lies, refl, λ none. none), standing, refl, refl, spare);
      }

  pub is_left : (len : ℕ) → len ≡ (usable u).len → (w : List ℕ) → IsLeft fllen sllen (allocator m x kept) addr len w (written (allocator m x kept) addr len w)
  unfolding written
  is_left len whole w =
      subst (λ (a : ℕ). IsLeft fllen sllen (allocator m x kept) addr len w (allocator (lent_space (touched m 3) a len w) x s)) holds.1
      (subst (λ (l : ℕ). IsLeft fllen sllen (allocator m x kept) addr l w (allocator (lent_space (touched m 3) (usable u).start l w) x s)) (sym whole) (left w))
