-- What clap's matches say about the command and its values.
use Rattle.std.proofs.Common.{◌≡◌, ℕ, ◌+◌, ◌<◌, List, [], ◌∷◌, ◌++◌, length, get_or, take, map, Option, Some, None, Result, Ok, true}
use Rattle.std.proofs.Common.{refl, sym, ap, subst, ◌∙◌, Bor}
use Rattle.std.proofs.lemmas.List.{map-append, take_more}
use Rattle.std.specs.{Str.Parse.ParsesUnsigned, Prelude.option_map}
use Rattle.clap.proofs.{WalkLemmas.one_text-rows, WalkLemmas.raw_values-rows, OnLiterals.clap_on_literals}
use Rattle.clap.specs.Words.{Text, TriesOne, all_of, matched_of, one_text, raw_values, rows_of, is_simple}
use Rattle.clap.specs.declared.parser.matches.Found.{Found}
use Rattle.monk_commands.specs.Request.{AreMeanings, IsMeaning, MayHaveNumber, NameList, monk_app, words_or_none}
use Rattle.monk_judge.specs.declared.waits_for.WaitsFor.{WaitsFor}

-- the number that is read by `try_get_one`, if one is
pub number_tried : (E : Type 0) (G : List ℕ → Result ℕ E → Type 0) (bits : ℕ) (o : Option ℕ)
    (r : Result (Option ℕ) E) (name : Text)
    (f : Found) → ((u : List ℕ) (x : Result ℕ E) → G u x → ParsesUnsigned bits 10 u x) → r ≡ Ok o
    → (one_text f name ≡ None → r ≡ Ok None) → ((t : List ℕ) → one_text f name ≡ Some t → TriesOne G t r)
    → MayHaveNumber name o (rows_of f)
number_tried E G bits o r name f only is none value = go (one_text f name) refl o is
  where
    go : (x : Option Text) → one_text f name ≡ x → (n : Option ℕ) → r ≡ Ok n → MayHaveNumber name n (rows_of f)
    go None e None told = sym (one_text-rows f name) ∙ e
    go None e (Some v) told = absurd (let no : r ≡ Ok None = none e in cc)
    go (Some t) e None told = absurd (subst (TriesOne G t) told (value t e))
    go (Some t) e (Some v) told =
        let read = only t (Ok v) (subst (TriesOne G t) told (value t e)) in
        record {
          text = t;
          found = sym (one_text-rows f name) ∙ e;
          is = record { digits = read.0.0; number = read.1 };
        }

pub monk_is_simple : (kinds samples : NameList) → is_simple (monk_app kinds samples) ≡ true
unfolding clap_on_literals
monk_is_simple kinds samples = refl

abbrev pub texts : List (Bor Text) → List Text
texts words = map (λ w. w.now) words

words_more : (ts : List Text) (ws : List WaitsFor) (t : Text) (w : WaitsFor) → AreMeanings ts ws → IsMeaning t w
    → AreMeanings (ts ++ t ∷ []) (ws ++ w ∷ [])
words_more [] [] t w are is = (is, tt)
words_more [] (v ∷ ws) t w are is = absurd are
words_more (s ∷ ts) [] t w are is = absurd are
words_more (s ∷ ts) (v ∷ ws) t w are is = (are.0, words_more ts ws t w are.1 is)

-- with the meaning of one more word
pub meanings_more : (words : List (Bor Text)) (i : ℕ) (t : Bor Text) (ws new : List WaitsFor) (w : WaitsFor)
    → i < length words
    → AreMeanings (texts (take i words)) ws → IsMeaning (get_or words i t).now w → new ≡ ws ++ w ∷ []
    → AreMeanings (texts (take (i + 1) words)) new
meanings_more words i t ws new w within are is more =
    subst (AreMeanings (texts (take (i + 1) words))) (sym more)
    (subst (λ (ts : List Text). AreMeanings ts (ws ++ w ∷ []))
    (sym (ap texts (take_more words i t within)
    ∙ map-append (λ (x : Bor Text). x.now) (take i words) (get_or words i t ∷ [])))
    (words_more (texts (take i words)) ws (get_or words i t).now w are is))

-- what clap has found for a name, and what it returns for it
pub found_words : (id : Text) (f : Found) (words : List Text) → Some words ≡ option_map raw_values (matched_of f id)
    → words ≡ words_or_none (all_of id (rows_of f))
found_words id f words is = ap words_or_none (is ∙ raw_values-rows f id)
