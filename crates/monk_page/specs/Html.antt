-- The text of a page: one HTML file, with a picture and its data
use Rattle.std.specs.Prelude.{◌≡◌, ℕ, List, ◌++◌, Option, Some, codes}
use Rattle.monk_draw.specs.{Window.last_of, Window.not_shown, declared.window.Window.Window}
use Rattle.monk_history.specs.{Text.Heading, declared.event.Event.Event}
use Rattle.monk_tell.specs.Told.{account, forbidden_step}
use Rattle.serde_json.specs.{Data.Data, Read.read, Written.compact_text}
use Rattle.monk_page.specs.Page.{page_json}
use Rattle.monk_page.specs.declared.template.{front.TheConstants.FRONT, shared.TheConstants.SHARED}
use Rattle.monk_page.specs.declared.template.article.TheConstants.{BESIDE, CLOSING, MIDDLE, OPENING}
use Rattle.monk_page.specs.declared.template.ends.TheConstants.{HISTORY, LOG}

-- what is put beside a history if its program says nothing
abbrev pub nothing_told : List ℕ
nothing_told = codes "null"

-- the rest of the page of a history; no proof looks at its text
unfoldable pub history_end : List ℕ
history_end = HISTORY.now

-- the rest of the page of a log
unfoldable pub log_end : List ℕ
log_end = LOG.now

-- the data of the events of the window
abbrev pub window_json : Heading → List Event → Option Window → Data
window_json h es w =
    let last = last_of w (forbidden_step (account h es).verdict) es in
    page_json h es (not_shown w last) last

-- a picture and data, with what the program says beside them, between the constant parts
unfoldable pub article : List ℕ → List ℕ → List ℕ → List ℕ
article drawn data_text told =
    OPENING.now ++ (drawn ++ (MIDDLE.now ++ (data_text ++ (BESIDE.now ++ (told ++ CLOSING.now)))))

-- articles as a page with that end
unfoldable pub page_of : List ℕ → List ℕ → List ℕ
page_of articles end = FRONT.now ++ (articles ++ (SHARED.now ++ end))

-- these bytes are a history or a run as one article of a page: a picture, those data, which a
-- reader of their text finds, and what the program says beside them
pub record IsArticleOf (json : Data) (told bytes : List ℕ) : Type 0 where
  pub picture : List ℕ
  pub is : bytes ≡ article picture (compact_text json) told
  pub reads_back : read (compact_text json) ≡ Some json

-- these bytes are those events as one article of a page, with what the program says beside them
abbrev pub IsArticle : Heading → List Event → Option Window → List ℕ → List ℕ → Type 0
IsArticle h es w told bytes = IsArticleOf (window_json h es w) told bytes

-- these bytes are a page with one article, beside which the program says nothing, and with that end
pub record IsPageOf (json : Data) (end bytes : List ℕ) : Type 0 where
  pub article : List ℕ
  pub one : IsArticleOf json nothing_told article
  pub is : bytes ≡ page_of article end

-- these bytes are a page of those events
abbrev pub IsPage : Heading → List Event → Option Window → List ℕ → Type 0
IsPage h es w bytes = IsPageOf (window_json h es w) history_end bytes
