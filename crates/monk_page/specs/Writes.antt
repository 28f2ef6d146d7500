-- What a writer of JSON has written
use Rattle.std.specs.Prelude.{◌≡◌, ◌++◌, List, ℕ, [], ◌∷◌, Some, ⊤}
use Rattle.json.specs.Token as token
use Rattle.json.specs.{Token.Token, Written.Written}
use Rattle.serde_json.specs.{Read.of_json, Written.number_text, Written.outline}
use Rattle.serde_json.specs.Data.{Data, null, boolean, number, array, object, string, Items, item, no_items, Members}
use Rattle.serde_json.specs.Data.{member, no_members}

abbrev mutual
  -- the tokens, with those of the value after them
  pub with_value : Data → List Token → List Token
  with_value null ts = ts ++ token.null ∷ []
  with_value (boolean b) ts = ts ++ token.boolean b ∷ []
  with_value (number n) ts = ts ++ token.number (number_text n) ∷ []
  with_value (string s) ts = ts ++ token.string s ∷ []
  with_value (array ds) ts = with_items ds (ts ++ token.begin_array ∷ []) ++ token.end_array ∷ []
  with_value (object ms) ts = with_members ms (ts ++ token.begin_object ∷ []) ++ token.end_object ∷ []

  -- the same for items, without the brackets
  pub with_items : Items → List Token → List Token
  with_items no_items ts = ts
  with_items (item d ds) ts = with_items ds (with_value d ts)

  -- the same for members
  pub with_members : Members → List Token → List Token
  with_members no_members ts = ts
  with_members (member k d ms) ts = with_members ms (with_value d (ts ++ token.key k ∷ []))

-- a reader of the value's text finds the value
abbrev pub Reads : Data → Type 0
Reads d = of_json (outline d) ≡ Some d

-- the same for each member
abbrev pub AllRead : Members → Type 0
AllRead no_members = ⊤
AllRead (member k d ms) = Reads d × AllRead ms

-- this value comes after what was written before
pub record AddsValue (d : Data) (old new : Written) : Type 0 where
  pub before : new.before ≡ old.before
  pub tokens : new.tokens ≡ with_value d old.tokens
  pub reads : Reads d

-- this member comes after what was written before
pub record AddsMember (k : List ℕ) (d : Data) (old new : Written) : Type 0 where
  pub before : new.before ≡ old.before
  pub tokens : new.tokens ≡ with_value d (old.tokens ++ token.key k ∷ [])
  pub reads : Reads d

-- these members come after what was written before
pub record AddsMembers (ms : Members) (old new : Written) : Type 0 where
  pub before : new.before ≡ old.before
  pub tokens : new.tokens ≡ with_members ms old.tokens
  pub reads : AllRead ms
