-- What a writer leaves: the text of the value. The value can be read from it, and an article shows it
use Rattle.std.proofs.Common.{◌≡◌, ◌∙◌, ◌<◌, ◌≤◌, ◌^◌, arith, ◌++◌, true, List, ℕ, Some, [], ◌∷◌, map, ap, refl, sym, append_assoc, append-nil}
use Rattle.json.specs.Token as token
use Rattle.json.proofs.Printed.Trees.{value-json_tokens}
use Rattle.json.specs.{Json.value, Lex.tokens, Print.print, Token.Token, Written.Written}
use Rattle.json.specs.Tree.{json_tokens, items_tokens, members_tokens}
use Rattle.serde_json.proofs.{Numbers.number_of-decimal, Texts.print-outline}
use Rattle.serde_json.specs.{Read.max_depth, View.items_of}
use Rattle.serde_json.specs.Written.{compact_text, outline, items_outline, members_outline}
use Rattle.serde_json.specs.Data.{Data, null, boolean, number, array, object, string, Items, item, no_items, Members}
use Rattle.serde_json.specs.Data.{member, no_members}
use Rattle.monk_page.proofs.PlainData.{is_plain, value_plain}
use Rattle.monk_page.specs.{Html.IsArticleOf, Html.article, Json.list_json, Json.number_json}
use Rattle.monk_page.specs.Writes.{AddsValue, Reads, with_value, with_items, with_members}
use Rattle.std.proofs.lemmas.Bool.Decides.{nat_tests}

-- a list is being written: after what is written, the values of the items `left` out of `all` are to come
pub record WritesList {X : Type 0} (json : X → Data) (left all : List X) (old now : Written) : Type 0 where
  pub before : now.before ≡ old.before
  pub tokens : with_items (items_of (map json left)) now.tokens ++ token.end_array ∷ []
      ≡ with_value (list_json json all) old.tokens
  pub reads : Reads (list_json json left) → Reads (list_json json all)

-- a reader of a number of 64 bits finds the number
pub number_reads : (n : ℕ) → n < 2 ^ 64 → Reads (number_json n)
number_reads n small = rw (number_of-decimal n small) refl

mutual
  value_tokens : (d : Data) (ts : List Token) → with_value d ts ≡ ts ++ json_tokens (outline d)
  value_tokens null ts = refl
  value_tokens (boolean b) ts = refl
  value_tokens (number n) ts = refl
  value_tokens (string s) ts = refl
  value_tokens (array ds) ts = item_tokens ds (ts ++ token.begin_array ∷ []) ∙ append_assoc ts _ _
  value_tokens (object ms) ts = member_tokens ms (ts ++ token.begin_object ∷ []) ∙ append_assoc ts _ _

  item_tokens : (ds : Items) (ts : List Token)
      → with_items ds ts ++ token.end_array ∷ [] ≡ ts ++ items_tokens (items_outline ds)
  item_tokens no_items ts = refl
  item_tokens (item d ds) ts =
      item_tokens ds (with_value d ts)
      ∙ (ap (λ (us : List Token). us ++ items_tokens (items_outline ds)) (value_tokens d ts) ∙ append_assoc ts _ _)

  member_tokens : (ms : Members) (ts : List Token)
      → with_members ms ts ++ token.end_object ∷ [] ≡ ts ++ members_tokens (members_outline ms)
  member_tokens no_members ts = refl
  member_tokens (member k d ms) ts =
      member_tokens ms (with_value d (ts ++ token.key k ∷ []))
      ∙ (ap (λ (us : List Token). us ++ members_tokens (members_outline ms)) (value_tokens d (ts ++ token.key k ∷ []))
      ∙ (append_assoc (ts ++ token.key k ∷ []) _ _ ∙ append_assoc ts _ _))

-- the text of plain data, with what is around it, is an article of these data
pub article_of : (n : ℕ) (d : Data) (old new : Written) (picture json told bytes : List ℕ)
    → AddsValue d old new → old.tokens ≡ [] → tokens (print new.tokens) ≡ new.tokens → is_plain n d ≡ true
    → n ≤ max_depth → json ≡ print new.tokens → bytes ≡ article picture json told → IsArticleOf d told bytes
article_of n d old new picture json told bytes adds none back plain small printed around =
    let only : new.tokens ≡ json_tokens (outline d) = adds.tokens ∙ (ap (with_value d) none ∙ value_tokens d []) in
    let compact : print new.tokens ≡ compact_text d = ap print only ∙ print-outline d in
    let same : tokens (compact_text d) ≡ json_tokens (outline d) = ap tokens (sym compact) ∙ (back ∙ only) in
    let found : value max_depth (tokens (compact_text d)) ≡ Some (outline d, []) =
    ap (value max_depth) (same ∙ sym (append-nil _))
    ∙ value-json_tokens (outline d) max_depth [] (omega (arith, (value_plain n d plain).0, small)) in
    grind (arith, nat_tests)
