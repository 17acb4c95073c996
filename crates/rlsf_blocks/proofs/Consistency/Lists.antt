-- What the links of a list of blocks say of each of them.
use Rattle.std.proofs.Common.{◌≡◌, ◌≢◌, ◌⊎◌, ℕ, ◌+◌, List, [], ◌∷◌, refl, sym, ◌∙◌, subst, inl, inr}
use Rattle.rlsf_base.specs.declared.memory.range.Range.{Range}
use Rattle.rlsf_base.specs.Space.{Space, word_at}
use Rattle.rlsf_model.specs.Lists.{IsIn}
use Rattle.rlsf_table.specs.FreeList.{Links}

-- a block of the list is at the address, and its word at an offset names another
abbrev pub NamesBack : Space → List Range → ℕ → ℕ → ℕ → Type 0
NamesBack m list at offset block = (g : Range) × IsIn g list × (at ≡ g.start) × (word_at m (g.start + offset) ≡ block)

-- the block that a block names as the next one, if any
abbrev pub HasNext : Space → List Range → Range → Type 0
HasNext m list f = (word_at m (f.start + 16) ≡ 0) ⊎ NamesBack m list (word_at m (f.start + 16)) 24 f.start

-- and the one before it
abbrev pub HasPreviousOne : Space → List Range → Range → Type 0
HasPreviousOne m list f = NamesBack m list (word_at m (f.start + 24)) 16 f.start

more_next : (m : Space) (p : Range) (list : List Range) (f : Range) → HasNext m list f → HasNext m (p ∷ list) f
more_next m p list f (inl none) = inl none
more_next m p list f (inr (g, i, at, back)) = inr (g, inr i, at, back)

more_previous : (m : Space) (p : Range) (list : List Range) (f : Range) → HasPreviousOne m list f → HasPreviousOne m (p ∷ list) f
more_previous m p list f (g, i, at, back) = (g, inr i, at, back)

first_next : (m : Space) (f : Range) (fs : List Range) → Links m f.start fs (word_at m (f.start + 16)) → HasNext m fs f
first_next m f [] links = inl links
first_next m f (g ∷ gs) (at, back, rest) = inr (g, inl refl, at, back)

-- a block behind another one
behind_one : (m : Space) (p : Range) (fs : List Range) → Links m p.start fs (word_at m (p.start + 16)) → (f : Range) → IsIn f fs
    → HasNext m (p ∷ fs) f × HasPreviousOne m (p ∷ fs) f
behind_one m p [] links f i = absurd i
behind_one m p (g ∷ gs) (at, back, rest) f (inl same) =
    subst (λ x. HasNext m (p ∷ g ∷ gs) x × HasPreviousOne m (p ∷ g ∷ gs) x) (sym same)
    (more_next m p (g ∷ gs) g (more_next m g gs g (first_next m g gs rest)), (p, inl refl, back, at))
behind_one m p (g ∷ gs) (at, back, rest) f (inr j) =
    let deeper = behind_one m g gs rest f j in (more_next m p (g ∷ gs) f deeper.0, more_previous m p (g ∷ gs) f deeper.1)

-- each block is the first one, or has one before it
pub linked : (m : Space) (fs : List Range) (head : ℕ) → Links m 0 fs head → (f : Range) → IsIn f fs
    → HasNext m fs f × (((head ≡ f.start) × (word_at m (f.start + 24) ≡ 0)) ⊎ HasPreviousOne m fs f)
linked m [] head links f i = absurd i
linked m (g ∷ gs) head (at, back, rest) f (inl same) =
    subst (λ x. HasNext m (g ∷ gs) x × (((head ≡ x.start) × (word_at m (x.start + 24) ≡ 0)) ⊎ HasPreviousOne m (g ∷ gs) x)) (sym same)
    (more_next m g gs g (first_next m g gs rest), inl (at, back))
linked m (g ∷ gs) head (at, back, rest) f (inr j) = let is = behind_one m g gs rest f j in (is.0, inr is.1)

-- a list with a block has a head
pub has_head : (m : Space) (p : ℕ) (fs : List Range) (head : ℕ) → Links m p fs head → ((g : Range) → IsIn g fs → g.start ≢ 0) → (f : Range) → IsIn f fs → head ≢ 0
has_head m p [] head links some f i none = absurd i
has_head m p (g ∷ gs) head links some f i none = some g (inl refl) (sym links.0 ∙ none)

-- and its head is the first block, which has none before it
pub head_of : (m : Space) (fs : List Range) (head : ℕ) → Links m 0 fs head → head ≢ 0 → (f : Range) × IsIn f fs × (head ≡ f.start) × (word_at m (f.start + 24) ≡ 0)
head_of m [] head links some = absurd (some links)
head_of m (f ∷ fs) head links some = (f, inl refl, links.0, links.1)
