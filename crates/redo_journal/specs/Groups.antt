-- The journal's body: groups of images, each behind a head that names their homes.
use Rattle.std.specs.Prelude.{◌≡◌, ℕ, ◌+◌, ◌<◌, true, false, List, [], ◌∷◌, ◌++◌, length}
use Rattle.page_layout.specs.Head.{IsHead, IsTyped, head_page}
use Rattle.page_layout.specs.declared.journal_head.JournalHead.{JournalHead}
use Rattle.page_disk.specs.Image.{PageList, Image, page_at}
use Rattle.redo_journal.specs.Placing.{ImageList, AreInReach}

-- the homes that a head names
abbrev pub homes_in : JournalHead → List ℕ
homes_in head = head.homes.items

-- the last of these homes, or the one before them
abbrev pub last_of : ℕ → List ℕ → ℕ
last_of last [] = last
last_of last (home ∷ homes) = last_of home homes

-- the page behind a group
abbrev pub behind : ℕ → JournalHead → ℕ
behind at head = at + 1 + length (homes_in head)

-- the images of these homes, which stand in a row from this page on
abbrev pub images_at : PageList → ℕ → List ℕ → ImageList
images_at journal at [] = []
images_at journal at (home ∷ homes) = (home, page_at journal at) ∷ images_at journal (at + 1) homes

-- the images behind a head
abbrev pub group_at : PageList → ℕ → JournalHead → ImageList
group_at journal at head = images_at journal (at + 1) (homes_in head)

module _ (len : ℕ) (journal : PageList) where
  -- At this page of the journal stands this head. Its images lie within the area, and its homes go on
  -- from the last one: in reach of a Pages area of this length.
  pub record HeadAt (at last : ℕ) (head : JournalHead) : Type 0 where
    pub rules : IsHead head
    pub typed : IsTyped head
    pub spelled : page_at journal at ≡ head_page head
    pub within : at + length (homes_in head) < length journal
    pub reach : AreInReach len last (homes_in head)

  -- The groups from this page on, behind this home, hold these images in this order. Each head but the last
  -- says that another group follows, and that one stands directly behind the images.
  pub data HoldsGroups : ℕ → ℕ → ImageList → Type 0 where
    last_group : {at last : ℕ} (head : JournalHead) → HeadAt at last head → head.more ≡ false
        → HoldsGroups at last (group_at journal at head)
    more_groups : {at last : ℕ} (head : JournalHead) (images : ImageList) → HeadAt at last head → head.more ≡ true
        → HoldsGroups (behind at head) (last_of last (homes_in head)) images
        → HoldsGroups at last (group_at journal at head ++ images)

  -- Of the groups from this page on, behind this home, the head at `page` is the first that is missing or
  -- breaks a rule.
  pub data BreaksAt : ℕ → ℕ → ℕ → Type 0 where
    breaks_here : {at last : ℕ} → ((head : JournalHead) → HeadAt at last head → ⊥) → BreaksAt at last at
    breaks_later : {at last page : ℕ} (head : JournalHead) → HeadAt at last head → head.more ≡ true
        → BreaksAt (behind at head) (last_of last (homes_in head)) page → BreaksAt at last page

-- The journal of this disk holds these images: its groups begin behind the gate.
abbrev pub HoldsImages : Image → ImageList → Type 0
HoldsImages x images = HoldsGroups (length x.pages) x.journal 1 0 images

-- The journal of this disk breaks its rules, first at this page.
abbrev pub BreaksRulesAt : Image → ℕ → Type 0
BreaksRulesAt x page = BreaksAt (length x.pages) x.journal 1 0 page
