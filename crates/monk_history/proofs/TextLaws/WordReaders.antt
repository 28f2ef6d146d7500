-- A value is taken from the words that it is written as, and a value that is written so is taken again.
use Rattle.std.proofs.Common.{◌≡◌, ℕ, ◌≤◌, ◌<◌, ◌^◌, Bool, true, false, cond, List, [], ◌∷◌, Option, Some, None, Result}
use Rattle.std.proofs.Common.{Ok, Err, refl, sym, ap, subst, ◌∙◌, arith}
use Rattle.std.proofs.lemmas.{Bool.leb-true, Bool.Decides.nat_tests, Slice.Eq.bytes_eq-Decides}
use Rattle.std.specs.{Prelude.filter, Fmt.decimal, Str.bytes_eq}
use Rattle.monk_history.specs.declared.text.fault.Flaw.TheVariants as flaw
use Rattle.monk_history.specs.Text.Words.{◌>>=◌, Word, number_at, with_rest, one_of, literal_at, end_at}
use Rattle.monk_history.proofs.TextLaws.{NumberWords.is_number_decimal, NumberWords.is_number_too_great, LineCuts.both}
use Rattle.monk_history.specs.declared.text.fault.Flaw.{Flaw}
use Rattle.monk_kinds.{specs.Names.with_text, proofs.PublicLaws.found_is, proofs.PublicLaws.some_is}

-- the value of a step that did not fail
pub bind_ok : {A B E : Type 0} (r : Result A E) (f : A → Result B E) (y : B) → (r >>= f) ≡ Ok y
    → (x : A) × (r ≡ Ok x) × (f x ≡ Ok y)
bind_ok (Ok x) f y e = (x, refl, e)
bind_ok (Err d) f y e = absurd cc

-- a test that did not fail
guard_ok : {A E : Type 0} (b : Bool) (d : E) (x y : A) → cond b (Ok x) (Err d) ≡ Ok y → (b ≡ true) × (x ≡ y)
guard_ok true d x y e = (refl, cc)
guard_ok false d x y e = absurd cc

abbrev pub done : {A : Type 0} → A → Result A Flaw
done x = Ok x

pub ok_is : {A : Type 0} (x y : A) → done x ≡ done y → x ≡ y
ok_is x y e = cc

-- ---- numbers

pub number_takes : (most : ℕ) (ws : List Word) (x : ℕ × List Word) → number_at most ws ≡ Ok x
    → (ws ≡ decimal x.0 ∷ x.1) × (x.0 ≤ most)
unfolding number_at
number_takes most ws x e = grind (arith, nat_tests, guard_ok, both, bytes_eq-Decides, leb-true)

pub number_again : (most n : ℕ) (ws : List Word) → most < 2 ^ 64 → n ≤ most
    → number_at most (decimal n ∷ ws) ≡ Ok (n, ws)
unfolding number_at
number_again most n ws lt le = grind (arith, nat_tests, is_number_decimal)

pub number_refused : (most n : ℕ) (ws : List Word) → n < 2 ^ 64 → most < n
    → number_at most (decimal n ∷ ws) ≡ Err flaw.Number
unfolding number_at
number_refused most n ws lt great = grind (arith, nat_tests, is_number_too_great)

-- ---- one of several words

rest_taken : {A : Type 0} (o : Option A) (word : A → Word) (w : Word) (ws : List Word) (x : A × List Word)
    → ((y : A) → o ≡ Some y → w ≡ word y) → with_rest ws o ≡ Ok x → w ∷ ws ≡ word x.0 ∷ x.1
rest_taken None word w ws x h e = absurd cc
rest_taken {A = A} (Some y) word w ws x h e = subst (λ (z : A × List Word). w ∷ ws ≡ word z.0 ∷ z.1) (ok_is (y, ws) x e)
    (ap (λ (v : Word). v ∷ ws) (h y refl))

pub one_of_takes : {A : Type 0} (word : A → Word) (values : List A) (ws : List Word) (x : A × List Word)
    → one_of word values ws ≡ Ok x → ws ≡ word x.0 ∷ x.1
unfolding one_of
one_of_takes word values [] x e = absurd cc
one_of_takes word values (w ∷ ws) x e = rest_taken (with_text word values w) word w ws x (found_is word values w) e

pub one_of_again : {A : Type 0} (word : A → Word) (values : List A) (x : A) (ws : List Word)
    → with_text word values (word x) ≡ Some x → one_of word values (word x ∷ ws) ≡ Ok (x, ws)
unfolding one_of
one_of_again word values x ws e = rw e refl

-- ---- one of the values that are kept

one_again : {A : Type 0} (word : A → Word) (w : Word) (v x : A) (rest : List A) (more : Option A) (found kept : Bool)
    → bytes_eq w (word v) ≡ found → (v ≡ x → kept ≡ true) → (more ≡ Some x → with_text word rest w ≡ Some x)
    → cond found (Some v) more ≡ Some x → with_text word (cond kept (v ∷ rest) rest) w ≡ Some x
one_again word w v x rest more true kept is keeps later e = rw (keeps (some_is v x e), is) e
one_again word w v x rest more false true is keeps later e = rw is (later e)
one_again word w v x rest more false false is keeps later e = later e

-- a value that is found among all is found among those that are kept, if it is one of them
pub kept_again : {A : Type 0} (word : A → Word) (keeps : A → Bool) (values : List A) (x : A) → keeps x ≡ true
    → with_text word values (word x) ≡ Some x → with_text word (filter keeps values) (word x) ≡ Some x
kept_again word keeps [] x kept e = e
kept_again {A = A} word keeps (v ∷ vs) x kept e =
    one_again word (word x) v x (filter keeps vs) (with_text word vs (word x)) (bytes_eq (word x) (word v))
    (keeps v) refl
    (λ (is : v ≡ x). ap keeps is ∙ kept) (kept_again word keeps vs x kept) e

first_kept : {A : Type 0} (keeps : A → Bool) (found : Bool) (v x : A) (more : Option A) → keeps v ≡ true
    → (more ≡ Some x → keeps x ≡ true) → cond found (Some v) more ≡ Some x → keeps x ≡ true
first_kept keeps true v x more kept later e = ap keeps (sym (some_is v x e)) ∙ kept
first_kept keeps false v x more kept later e = later e

one_kept : {A : Type 0} (word : A → Word) (keeps : A → Bool) (w : Word) (v x : A) (rest : List A) (kept : Bool)
    → keeps v ≡ kept → (with_text word rest w ≡ Some x → keeps x ≡ true)
    → with_text word (cond kept (v ∷ rest) rest) w ≡ Some x → keeps x ≡ true
one_kept word keeps w v x rest true is later e =
    first_kept keeps (bytes_eq w (word v)) v x (with_text word rest w) is later e
one_kept word keeps w v x rest false is later e = later e

-- what is found among those that are kept is one of them
found_kept : {A : Type 0} (word : A → Word) (keeps : A → Bool) (values : List A) (w : Word) (x : A)
    → with_text word (filter keeps values) w ≡ Some x → keeps x ≡ true
found_kept word keeps [] w x e = absurd cc
found_kept word keeps (v ∷ vs) w x e =
    one_kept word keeps w v x (filter keeps vs) (keeps v) refl (found_kept word keeps vs w x) e

one_none : {A : Type 0} (word : A → Word) (w : Word) (v : A) (rest : List A) (kept : Bool)
    → (kept ≡ true → bytes_eq w (word v) ≡ false) → with_text word rest w ≡ None
    → with_text word (cond kept (v ∷ rest) rest) w ≡ None
one_none word w v rest true is later = rw (is refl) later
one_none word w v rest false is later = later

-- none is found if the word is that of none that are kept
pub none_kept : {A : Type 0} (word : A → Word) (keeps : A → Bool) (values : List A) (w : Word)
    → ((v : A) → keeps v ≡ true → bytes_eq w (word v) ≡ false) → with_text word (filter keeps values) w ≡ None
none_kept word keeps [] w others = refl
none_kept word keeps (v ∷ vs) w others =
    one_none word w v (filter keeps vs) (keeps v) (others v) (none_kept word keeps vs w others)

rest_kept : {A : Type 0} (o : Option A) (keeps : A → Bool) (ws : List Word) (x : A × List Word)
    → ((y : A) → o ≡ Some y → keeps y ≡ true) → with_rest ws o ≡ Ok x → keeps x.0 ≡ true
rest_kept None keeps ws x h e = absurd cc
rest_kept {A = A} (Some y) keeps ws x h e =
    subst (λ (z : A × List Word). keeps z.0 ≡ true) (ok_is (y, ws) x e) (h y refl)

pub one_of_kept : {A : Type 0} (word : A → Word) (keeps : A → Bool) (values : List A) (ws : List Word)
    (x : A × List Word)
    → one_of word (filter keeps values) ws ≡ Ok x → keeps x.0 ≡ true
unfolding one_of
one_of_kept word keeps values [] x e = absurd cc
one_of_kept word keeps values (w ∷ ws) x e =
    rest_kept (with_text word (filter keeps values) w) keeps ws x (found_kept word keeps values w) e

pub literal_takes : (l : Word) (ws : List Word) (x : Unit {0} × List Word) → literal_at l ws ≡ Ok x → ws ≡ l ∷ x.1
literal_takes l ws x e = grind (arith, nat_tests, guard_ok, bytes_eq-Decides)

pub end_takes : (ws : List Word) (x : Unit {0} × List Word) → end_at ws ≡ Ok x → (ws ≡ []) × (x.1 ≡ [])
end_takes ws x e = grind (arith, nat_tests)
