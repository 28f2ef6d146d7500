-- If a value's strings and keys are bare, markup shows its text unchanged
use Rattle.std.proofs.Common.{◌≡◌, ◌&&◌, ◌≤◌, ℕ, suc, Bool, true, false, cond, List, [], ◌∷◌, ◌++◌, Option, Some, None, map, refl, arith}
use Rattle.std.proofs.lemmas.Bool.{and_parts, false≢true}
use Rattle.std.specs.{Fmt.decimal, Option.option_map_or}
use Rattle.json.specs.{Tree.depth, Tree.items_depth, Tree.members_depth, Print.quoted}
use Rattle.serde_json.specs.{View.items_of, Written.comma_if, Written.compact_text, Written.items_outline}
use Rattle.serde_json.specs.{Written.items_text, Written.members_outline, Written.members_text, Written.outline}
use Rattle.serde_json.specs.Data.{unsigned, Data, null, number, string, array, object, Items, no_items, item, Members}
use Rattle.serde_json.specs.Data.{no_members, member}
use Rattle.monk_page.proofs.PlainTexts.{all_append, bare_decimal, bare_text, is_bare}
use Rattle.monk_page.specs.Plain.{is_plain_byte, is_plain_text}

-- null, whole numbers and bare strings, in lists and in objects with bare keys, nested at most `n` deep
abbrev mutual
  pub is_plain : ℕ → Data → Bool
  is_plain n null = true
  is_plain n (number (unsigned m)) = true
  is_plain n (string s) = is_bare s
  is_plain (suc n) (array ds) = items_are_plain n ds
  is_plain (suc n) (object ms) = members_are_plain n ms
  is_plain n d = false

  pub items_are_plain : ℕ → Items → Bool
  items_are_plain n no_items = true
  items_are_plain n (item d ds) = is_plain n d && items_are_plain n ds

  pub members_are_plain : ℕ → Members → Bool
  members_are_plain n no_members = true
  members_are_plain n (member k d ms) = (is_bare k && is_plain n d) && members_are_plain n ms

pub items_plain : {X : Type 0} (n : ℕ) (f : X → Data) (xs : List X) → ((x : X) → is_plain n (f x) ≡ true)
    → items_are_plain n (items_of (map f xs)) ≡ true
items_plain n f [] h = refl
items_plain n f (x ∷ xs) h = rw (h x, items_plain n f xs h) refl

pub option_plain : {X : Type 0} (n : ℕ) (f : X → Data) (o : Option X) → ((x : X) → is_plain n (f x) ≡ true)
    → is_plain n (option_map_or f o null) ≡ true
option_plain n f None h = refl
option_plain n f (Some x) h = h x

pub if_plain : (n : ℕ) (b : Bool) (d : Data) → is_plain n d ≡ true → is_plain n (cond b d null) ≡ true
if_plain n true d p = p
if_plain n false d p = refl

pub both : (a b : Bool) → a ≡ true → b ≡ true → (a && b) ≡ true
both true b p q = q
both false b p q = p

-- by these rules a value is plain if its parts are
pub ruleset plain_parts = (both, items_plain, option_plain, if_plain)

-- ---- its depth and its text

comma_then : (later : Bool) (t : List ℕ) → is_plain_text t ≡ true → is_plain_text (comma_if later ++ t) ≡ true
comma_then true t p = p
comma_then false t p = p

quoted_plain : (s : List ℕ) → is_bare s ≡ true → is_plain_text (quoted s) ≡ true
quoted_plain s p =
    let bare = bare_text s p in
    rw bare.0 (all_append is_plain_byte s (34 ∷ []) bare.1 refl)

mutual
  pub value_plain : (n : ℕ) (d : Data) → is_plain n d ≡ true
      → (depth (outline d) ≤ n) × (is_plain_text (compact_text d) ≡ true)
  value_plain n null p = (omega arith, refl)
  value_plain n (number (unsigned m)) p = (omega arith, (bare_text (decimal m) (bare_decimal m)).1)
  value_plain n (string s) p = (omega arith, quoted_plain s p)
  value_plain (suc n) (array ds) p = let q = items_value n ds false p in (omega (arith, q.0), q.1)
  value_plain (suc n) (object ms) p = let q = members_value n ms false p in (omega (arith, q.0), q.1)
  value_plain n d p = absurd (false≢true p)

  items_value : (n : ℕ) (ds : Items) (later : Bool) → items_are_plain n ds ≡ true
      → (items_depth (items_outline ds) ≤ n) × (is_plain_text (items_text later ds) ≡ true)
  items_value n no_items later p = (omega arith, refl)
  items_value n (item d ds) later p =
      let parts = and_parts (is_plain n d) (items_are_plain n ds) p in
      let first = value_plain n d parts.0 in
      let rest = items_value n ds true parts.1 in (
        omega (arith, first.0, rest.0),
        comma_then later (compact_text d ++ items_text true ds)
            (all_append is_plain_byte (compact_text d) (items_text true ds) first.1 rest.1),
      )

  members_value : (n : ℕ) (ms : Members) (later : Bool) → members_are_plain n ms ≡ true
      → (members_depth (members_outline ms) ≤ n) × (is_plain_text (members_text later ms) ≡ true)
  members_value n no_members later p = (omega arith, refl)
  members_value n (member k d ms) later p =
      let parts = and_parts (is_bare k && is_plain n d) (members_are_plain n ms) p in
      let named = and_parts (is_bare k) (is_plain n d) parts.0 in
      let first = value_plain n d named.1 in
      let rest = members_value n ms true parts.1 in
      let text = compact_text d ++ members_text true ms in
      let behind = all_append is_plain_byte (compact_text d) (members_text true ms) first.1 rest.1 in (
        omega (arith, first.0, rest.0),
        comma_then later (quoted k ++ 58 ∷ text)
            (all_append is_plain_byte (quoted k) (58 ∷ text) (quoted_plain k named.0) behind),
      )
