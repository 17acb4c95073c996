-- What the steps of the allocator over pages leave of the memory. Its source takes nothing back, so each range that it provided stays
-- outstanding, and there are no footers.
use Rattle.std.proofs.Common.{◌≡◌, ◌≤◌, ◌+◌, ℕ, IfNone, IfSome, Bool, true, false, true≢false, List, [], ◌∷◌, ◌++◌, Option, Some, None, arith, refl, sym, ◌∙◌, ap, subst, inl, inr}
use Rattle.rlsf_base.specs.declared.memory.range.Range.{Range}
use Rattle.rlsf_base.specs.Space.{SamePlace, Space}
use Rattle.rlsf_blocks.specs.Spare.{IsSpare}
use Rattle.rlsf_flex.specs.Outside.{IsOutside, NothingGoesBack}
use Rattle.rlsf_flex.specs.StandsFor.{FlexContents, FlexStandsFor, FlexSteps, StepsAlone}
use Rattle.rlsf_flex.proofs.InnerAllocator.{alone_opened, flex_opened, flex_spare}
use Rattle.rlsf_flex.proofs.OutsideNow.{KeepsOutsideNow-spare}
use Rattle.rlsf_flex.proofs.Places.{SamePlace-refl, SamePlace-then}
use Rattle.rlsf_global.specs.LiveRows.{HasCodes, LiveRows, looked}
use Rattle.rlsf_global.specs.Locked.{locked_contents}
use Rattle.rlsf_global.specs.Memory.{CopiesOnResize, KeepsMemory}
use Rattle.rlsf_global.specs.Results.{KeepsLocked, KeepsLockedResizing, KeepsLockedWriting}
use Rattle.rlsf_model.specs.FlexAllocate.{FlexAllocates}
use Rattle.rlsf_model.specs.FlexReallocate.{FlexReallocates}
use Rattle.rlsf_model.specs.FlexState.{FlexState}
use Rattle.rlsf_model.specs.Growth.{Extends, Outcome, Questions, questions, range_came, growth_came, notes_of, refused}
use Rattle.rlsf_model.specs.Lists.{IsIn}
use Rattle.rlsf_model.specs.Note.{Note, alloc, dealloc, grow}
use Rattle.rlsf_model.specs.State.{State}
use Rattle.rlsf_model.specs.Terms.{Terms}
use Rattle.rlsf_model_global.specs.Cursor.{PageCursor, PageLeads, terms_of}
use Rattle.rlsf_model_global.specs.Pages.{MayOwe}
use Rattle.rlsf_model.proofs.Names.{growth_note, range_note}

-- ---- an allocation and a reallocation return no range

abbrev asks_for_memory : Note → Bool
asks_for_memory (alloc n r) = true
asks_for_memory (grow r n len) = true
asks_for_memory (dealloc r) = false

growth_returns_none : (growth : Option (Range × ℕ)) (answer : Option ℕ) → NothingGoesBack (growth_note growth answer)
growth_returns_none None answer r i = absurd i
growth_returns_none (Some (p, n)) answer r i = elim i [ inl e ↦ absurd (true≢false (sym (ap asks_for_memory e))) | inr none ↦ absurd none ]

range_returns_none : (range : Option ℕ) (answer : Option Range) → NothingGoesBack (range_note range answer)
range_returns_none None answer r i = absurd i
range_returns_none (Some n) answer r i = elim i [ inl e ↦ absurd (true≢false (sym (ap asks_for_memory e))) | inr none ↦ absurd none ]

both_return_none : (ms ns : List Note) → NothingGoesBack ms → NothingGoesBack ns → NothingGoesBack (ms ++ ns)
both_return_none [] ns one two r i = two r i
both_return_none (m ∷ ms) ns one two r i = elim i [
  | inl e ↦ one r (inl e)
  | inr later ↦ both_return_none ms ns (λ p j. one p (inr j)) two r later
]

questions_return_none : (q : Questions) (o : Outcome) → NothingGoesBack (notes_of q o)
questions_return_none q refused = both_return_none (growth_note q.growth None) (range_note q.range None) (growth_returns_none q.growth None) (range_returns_none q.range None)
questions_return_none q (growth_came len) = growth_returns_none q.growth (Some len)
questions_return_none q (range_came p) =
    both_return_none (growth_note q.growth None) (range_note q.range (Some p)) (growth_returns_none q.growth None) (range_returns_none q.range (Some p))

asked_return_none : {fllen : ℕ} {t : Terms} {s u : FlexState} {wanted : Option ℕ} {o : Outcome} {notes : List Note} → Extends fllen t s wanted o notes u
    → NothingGoesBack notes
asked_return_none {t = t} {s = s} {wanted = wanted} {o = o} extends =
    subst NothingGoesBack (sym extends.asked) (questions_return_none (questions t s.kept wanted) o)

none_return_none : (notes : List Note) → notes ≡ [] → NothingGoesBack notes
none_return_none notes is = subst NothingGoesBack (sym is) (λ r i. absurd i)

module _ (f f' : FlexContents PageCursor) where
  -- ---- one step

  kept_asked : (step : List Note → FlexState → Type 0) → FlexSteps 64 64 terms_of MayOwe PageLeads f f' step
      → ((notes : List Note) → step notes f'.state → NothingGoesBack notes) → KeepsMemory f f'
  kept_asked step did none_returned =
      let (notes, is, led, outside, stands) = flex_opened f f' step did in
      record {
        place = outside.place;
        spare = λ a low high one two. flex_spare 64 64 terms_of MayOwe PageLeads f f' step did a low high one two (λ footer. true≢false (sym footer.takes_back));
        outside = λ a low high none. outside.bytes a low high (outside.all_owed (none_returned notes is) a none);
      }

  pub kept_allocated : (size align : ℕ) (reply : Option ℕ)
      → FlexSteps 64 64 terms_of MayOwe PageLeads f f' (FlexAllocates 64 64 (terms_of f.source) f.state size align reply) → KeepsMemory f f'
  kept_allocated size align reply did = grind (arith, kept_asked, asked_return_none, none_return_none)

  pub kept_reallocated : (addr size : ℕ) (reply : Option ℕ)
      → FlexSteps 64 64 terms_of MayOwe PageLeads f f' (FlexReallocates 64 64 (terms_of f.source) f.state addr size reply) → KeepsMemory f f'
  kept_reallocated addr size reply did = grind (arith, kept_asked, asked_return_none, none_return_none)

  -- a step that asks nothing
  pub kept_alone : (step : State → Type 0) → FlexStandsFor 64 64 terms_of MayOwe f → StepsAlone 64 64 terms_of MayOwe f f' step → SamePlace f.memory f'.memory → KeepsMemory f f'
  kept_alone step stood did place =
      let (is, after, stands, spare) = alone_opened f f' step did in
      let pools : f'.state.pools ≡ f.state.pools = ap (λ (s : FlexState). s.pools) after in
      record {
        place = place;
        spare = spare;
        outside =
            (KeepsOutsideNow-spare f.memory f'.memory f.state.machine f'.state.machine f.state.pools f'.state.pools stood.well_formed.housed stands.well_formed.housed
            (λ a none. subst (λ ps. IsOutside ps a) pools none) place spare).bytes;
      }

-- nothing was done
pub KeepsMemory-refl : (f : FlexContents PageCursor) → KeepsMemory f f
KeepsMemory-refl f = record { place = SamePlace-refl f.memory; spare = λ a low high one two. refl; outside = λ a low high none. refl }

pub keeps_unchanged : (f : FlexContents PageCursor) (live live' : LiveRows) → live'.looks ≤ live.looks + 2 → (HasCodes live → HasCodes live')
    → KeepsLocked (locked_contents f live) (locked_contents f live')
keeps_unchanged f live live' few codes = record { memory = KeepsMemory-refl f; grow = omega arith; copied = refl; looks = few; codes = codes }

-- a step was made that asks nothing
pub keeps_alone : (f f' : FlexContents PageCursor) (live live' : LiveRows) (step : State → Type 0) → FlexStandsFor 64 64 terms_of MayOwe f
    → StepsAlone 64 64 terms_of MayOwe f f' step → SamePlace f.memory f'.memory → f.memory.touches ≤ f'.memory.touches → f'.memory.copied ≡ f.memory.copied
    → live'.looks ≤ live.looks + 2 → (HasCodes live → HasCodes live') → KeepsLocked (locked_contents f live) (locked_contents f' live')
keeps_alone f f' live live' step stood did place touched copied few codes =
    record { memory = kept_alone f f' step stood did place; grow = touched; copied = copied; looks = few; codes = codes }

-- only a code was read
pub keeps_looked : (f : FlexContents PageCursor) (live : LiveRows) → KeepsLocked (locked_contents f live) (locked_contents f (looked live))
keeps_looked f live = keeps_unchanged f live (looked live) (omega arith) (λ has. has)

-- a code was read, and one more code was read or written by what followed
pub keeps_looked_before : (f f' : FlexContents PageCursor) (live live' : LiveRows) → KeepsLocked (locked_contents f (looked live)) (locked_contents f' live')
    → live'.looks ≡ live.looks + 1 + 1 → KeepsLocked (locked_contents f live) (locked_contents f' live')
keeps_looked_before f f' live live' kept looks =
    record { memory = kept.memory; grow = kept.grow; copied = kept.copied; looks = omega (arith, looks); codes = kept.codes }

pub keeps_looked_writing : (f : FlexContents PageCursor) (live : LiveRows) → KeepsLockedWriting (locked_contents f live) (locked_contents f (looked live))
keeps_looked_writing f live =
    record { layouts = refl; memory = KeepsMemory-refl f; grow = omega arith; copied = refl; looks = omega arith; codes = λ has. has }

-- ---- one step after another

-- behind what may ask for memory, a step that asks nothing and keeps the chunks
then_alone : (f m e : FlexContents PageCursor) (step : State → Type 0) → KeepsMemory f m → FlexStandsFor 64 64 terms_of MayOwe m
    → StepsAlone 64 64 terms_of MayOwe m e step → SamePlace m.memory e.memory → e.state.machine.chunks ≡ m.state.machine.chunks → KeepsMemory f e
then_alone f m e step first stood did place chunks =
    let (is, after, stands, spare) = alone_opened m e step did in
    let second = kept_alone m e step stood did place in
    let pools : e.state.pools ≡ m.state.pools = ap (λ (s : FlexState). s.pools) after in
    let meanwhile : (a : ℕ) → IsSpare e.state.machine a → IsSpare m.state.machine a =
    λ a two c i. two c (subst (λ (cs : List Range). IsIn c cs) (sym chunks) i) in
    record {
      place = SamePlace-then f.memory m.memory e.memory first.place place;
      spare = λ a low high one two.
          second.spare a (omega (arith, first.place.0, low)) (omega (arith, first.place.0, first.place.1, high)) (meanwhile a two) two
          ∙ first.spare a low high one (meanwhile a two);
      outside = λ a low high none.
          second.outside a (omega (arith, first.place.0, low)) (omega (arith, first.place.0, first.place.1, high)) none
          ∙ first.outside a low high (subst (λ ps. IsOutside ps a) pools none);
    }

-- a payload is allocated, gets the bytes of another, and that one is deallocated
pub kept_moved : (f m k e : FlexContents PageCursor) (size align addr : ℕ) (copies frees : State → Type 0)
    → FlexSteps 64 64 terms_of MayOwe PageLeads f m (FlexAllocates 64 64 (terms_of f.source) f.state size align (Some addr))
    → StepsAlone 64 64 terms_of MayOwe m k copies → SamePlace m.memory k.memory → k.state.machine.chunks ≡ m.state.machine.chunks
    → StepsAlone 64 64 terms_of MayOwe k e frees → SamePlace k.memory e.memory → e.state.machine.chunks ≡ k.state.machine.chunks → KeepsMemory f e
kept_moved f m k e size align addr copies frees takes copied place chunks freed place2 chunks2 =
    let (notes, step, led, outside, stands) = flex_opened f m (FlexAllocates 64 64 (terms_of f.source) f.state size align (Some addr)) takes in
    let (fills, after, stands2, spare2) = alone_opened m k copies copied in
    let first = then_alone f m k copies (kept_allocated f m size align (Some addr) takes) stands copied place chunks in
    then_alone f k e frees first stands2 freed place2 chunks2

-- ---- what was copied

-- nothing was done
pub copies_nothing : (enabled : Bool) (s : State) (addr size wanted : ℕ) (m : Space) → CopiesOnResize enabled s addr size wanted m m
copies_nothing enabled s addr size wanted m =
    record { grow = omega arith; room = λ on room. omega arith; stays = λ on room. refl; elsewhere = λ off. omega arith }

pub keeps_looked_resizing : (enabled : Bool) (addr size wanted : ℕ) (f : FlexContents PageCursor) (live : LiveRows)
    → KeepsLockedResizing enabled addr size wanted (locked_contents f live) (locked_contents f (looked live))
keeps_looked_resizing enabled addr size wanted f live = record {
  memory = KeepsMemory-refl f;
  grow = omega arith;
  copied = copies_nothing enabled f.state.machine addr size wanted f.memory;
  looks = omega arith;
  codes = λ has. has;
}

-- a move copies so many bytes at most, whether there is room for it or not
pub copied_at_most : {A : Type 0} (o : Option A) (before after keep : ℕ) → IfSome o (λ to. after ≡ before + keep) → IfNone o (after ≡ before)
    → (before ≤ after) × (after ≤ before + keep)
copied_at_most None before after keep some none = (omega (arith, none), omega (arith, none))
copied_at_most (Some to) before after keep some none = (omega (arith, some), omega (arith, some))
