-- The page of several histories, each with what its program says
use Rattle.std.specs.Prelude.{◌≡◌, ◌^◌, ℕ, zero, suc, List, [], ◌++◌, Option, Some, None, Result, Ok, Err, slice_get}
use Rattle.monk_draw.specs.declared.window.Window.{Window}
use Rattle.monk_history.specs.{Text.Reading.History, Text.Reading.text_at, declared.text.fault.ReadFault.ReadFault}
use Rattle.monk_page.specs.Html.{IsArticle, history_end, page_of}
use Rattle.monk_commands.specs.declared.paging.Paged.{Paged}

-- these bytes are the part for what was read, with what its program says; only a history has one
abbrev pub IsReadArticle : Option Window → List ℕ → Result History ReadFault → List ℕ → Type 0
IsReadArticle w beside (Ok h) bytes = IsArticle h.0 h.1 w beside bytes
IsReadArticle w beside (Err f) bytes = ⊥

-- the part of a history
abbrev pub IsPart : Option Window → Paged → List ℕ → Type 0
IsPart w p bytes = IsReadArticle w p.beside.now (text_at (2 ^ 25) p.text.now) bytes

-- the same, if there is a history
abbrev pub IsPartOf : Option Window → Option Paged → List ℕ → Type 0
IsPartOf w None bytes = ⊥
IsPartOf w (Some p) bytes = IsPart w p bytes

-- one more part comes after these
pub record IsNext (w : Option Window) (p : Option Paged) (Before : List ℕ → Type 0) (bytes : List ℕ) : Type 0 where
  pub before : List ℕ
  pub part : List ℕ
  pub are : Before before
  pub is_part : IsPartOf w p part
  pub is : bytes ≡ before ++ part

-- the parts of the first histories, as many as the number says, in their order
abbrev pub ArePaged : Option Window → List Paged → ℕ → List ℕ → Type 0
ArePaged w ps zero bytes = bytes ≡ []
ArePaged w ps (suc k) bytes = IsNext w (slice_get ps k) (ArePaged w ps k) bytes

-- these bytes are a page of them all
pub record IsPageOfAll (w : Option Window) (ps : List Paged) (many : ℕ) (bytes : List ℕ) : Type 0 where
  pub articles : List ℕ
  pub are : ArePaged w ps many articles
  pub is : bytes ≡ page_of articles history_end
