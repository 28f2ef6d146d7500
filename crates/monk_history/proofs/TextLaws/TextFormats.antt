-- The laws of texts of lines, for any header and any items that are written in words and read from them.
use Rattle.std.proofs.Common.{◌≡◌, ◌==◌, ℕ, zero, suc, ◌+◌, ◌≤◌, ◌<◌, Bool, true, false, cond, List, [], ◌∷◌, ◌++◌}
use Rattle.std.proofs.Common.{length, Result, Ok, Err, refl, sym, ap, subst, ◌∙◌, append_assoc, arith}
use Rattle.std.specs.List.{flat_map, join_with_byte, AllByRecursion}
use Rattle.std.proofs.lemmas.Bool.{eqb-true}
use Rattle.std.proofs.lemmas.List.{nil_from_length}
use Rattle.std.proofs.lemmas.List.Splits.{join_with_byte-slice_split}
use Rattle.monk_history.specs.declared.text.fault.ReadFault.{ReadFault}
use Rattle.monk_history.specs.Text.Faults.{end_fault}
use Rattle.monk_history.specs.Text.Words.{◌>>=◌, Word, Taken, words_of}
use Rattle.monk_history.specs.Text.Lines.{line, lines_of, with_line_number, item_line, after_header, header_line, items_at, lines_at}
use Rattle.monk_history.proofs.TextLaws.LineCuts.{AreWords, words_of-words, lines_of-line}
use Rattle.monk_history.proofs.TextLaws.LineSteps.{some_part, one_line, too_long, last_part, left_of, some_header, both_parts}
use Rattle.monk_history.proofs.TextLaws.WordReaders.{bind_ok}
use Rattle.std.proofs.lemmas.Bool.Decides.{nat_tests}

-- how an item is written, and how it is read
pub record IsFormat {A : Type 0} (words : A → List Word) (parse : List Word → Taken A)
    (Fits : A → Type 0) : Type 0 where
  pub takes : (ws : List Word) (x : A × List Word) → parse ws ≡ Ok x → (ws ≡ words x.0) × Fits x.0
  pub again : (x : A) → Fits x → parse (words x) ≡ Ok (x, [])
  pub plain : (x : A) → Fits x → AreWords (words x)
  pub some : (x : A) → 0 < length (words x)

abbrev taken_made : {A : Type 0} → A → List Word → Taken A
taken_made e ws = Ok (e, ws)

abbrev item_made : {A : Type 0} → A → Result A ReadFault
item_made e = Ok e

item_is : {A : Type 0} (a b : A) → item_made a ≡ item_made b → a ≡ b
item_is a b h = cc

numbered_ok : {A : Type 0} (n : ℕ) (r : Taken A) (e : A) → with_line_number n r ≡ Ok e
    → (ws : List Word) × (r ≡ Ok (e, ws))
numbered_ok {A = A} n (Ok x) e h = (x.1, ap (λ (y : A). taken_made y x.1) (item_is x.0 e h))
numbered_ok n (Err f) e h = absurd cc

abbrev items_read : {A : Type 0} → List A → Result (List A) ReadFault
items_read es = Ok es

items_are : {A : Type 0} (x y : List A) → items_read x ≡ items_read y → x ≡ y
items_are x y e = cc

module _ {A : Type 0} (words : A → List Word) (parse : List Word → Taken A) (Fits : A → Type 0)
    (format : IsFormat words parse Fits) where
  abbrev line_with : A → List ℕ
  line_with e = line (words e)

  line_again : (e : A) (n : ℕ) → Fits e → item_line parse n (join_with_byte 32 (words e)) ≡ Ok e
  line_again e n fits = rw (words_of-words (words e) (format.some e) (format.plain e fits), format.again e fits) refl

  line_takes : (l : List ℕ) (n : ℕ) (e : A) → item_line parse n l ≡ Ok e → (l ++ 10 ∷ [] ≡ line_with e) × Fits e
  line_takes l n e h =
      let p = numbered_ok n (parse (words_of l)) e h in
      let t = format.takes (words_of l) (e, p.0) p.1 in
      let whole : l ≡ join_with_byte 32 (words e) = sym (join_with_byte-slice_split 32 l)
      ∙ ap (join_with_byte 32) t.0 in
      (ap (λ (x : List ℕ). x ++ 10 ∷ []) whole, t.1)

  pub items_again : (es : List A) (room n : ℕ) → AllByRecursion Fits es → length es ≤ room
      → items_at parse room n (lines_of (flat_map line_with es)) ≡ Ok es
  items_again [] room n fits le = last_part parse room n []
  items_again (e ∷ es) zero n fits le = absurd (omega arith)
  items_again (e ∷ es) (suc room) n fits le =
      let p = some_part (λ b. b == 10) (flat_map line_with es) in
      let cut : lines_of (flat_map line_with (e ∷ es)) ≡ join_with_byte 32 (words e) ∷ p.0 ∷ p.1 =
      grind (arith, nat_tests, lines_of-line) in
      let rest : items_at parse room (suc n) (p.0 ∷ p.1) ≡ Ok es = ap (items_at parse room (suc n)) (sym p.2)
      ∙ items_again es room (suc n) fits.1 (omega arith) in
      rw cut (one_line parse room n (join_with_byte 32 (words e)) p.0 p.1 ∙ rw (line_again e n fits.0, rest) refl)

  -- the items found, and the text that the parts are of
  pub record Found (room : ℕ) (parts : List (List ℕ)) (es : List A) : Type 0 where
    pub whole : join_with_byte 10 parts ≡ flat_map line_with es
    pub fit : AllByRecursion Fits es
    pub few : length es ≤ room

  last_found : (room : ℕ) (rest : List ℕ) (b : Bool) (f : ReadFault) (es : List A) → (b ≡ true → rest ≡ [])
      → cond b (items_read []) (Err f) ≡ Ok es → Found room (rest ∷ []) es
  last_found room rest true f es h e =
      subst (Found room (rest ∷ [])) (items_are [] es e) (record { whole = h refl; fit = tt; few = omega arith })
  last_found room rest false f es h e = absurd cc

  one_more : (room : ℕ) (l next : List ℕ) (more : List (List ℕ)) (x : A) (xs es : List A) → (l ++ 10 ∷ [] ≡ line_with x)
      × Fits x → Found room (next ∷ more) xs → items_read (x ∷ xs) ≡ Ok es → Found (suc room) (l ∷ next ∷ more) es
  one_more room l next more x xs es t h e =
      let regrouped : l ++ (10 ∷ join_with_byte 10 (next ∷ more)) ≡ (l ++ 10 ∷ []) ++ join_with_byte 10 (next ∷ more) =
      sym (append_assoc l (10 ∷ []) (join_with_byte 10 (next ∷ more))) in
      let whole : l ++ (10 ∷ join_with_byte 10 (next ∷ more)) ≡ line_with x ++ flat_map line_with xs =
      grind (arith, nat_tests) in
      grind (arith, nat_tests, items_are)

  pub items_found : (room n : ℕ) (part : List ℕ) (parts : List (List ℕ)) (es : List A)
      → items_at parse room n (part ∷ parts) ≡ Ok es → Found room (part ∷ parts) es
  items_found room n rest [] es e =
      last_found room rest (length rest == 0) (end_fault n) es (λ b. nil_from_length rest (eqb-true _ _ b))
      (sym (last_part parse room n rest) ∙ e)
  items_found zero n l (next ∷ more) es e = let bad = sym (too_long parse n l next more) ∙ e in absurd cc
  items_found (suc room) n l (next ∷ more) es e =
      let a = bind_ok (item_line parse n l) (λ x. items_at parse room (suc n) (next ∷ more) >>= λ xs. Ok (x ∷ xs)) es
      (sym (one_line parse room n l next more) ∙ e) in
      let b = bind_ok (items_at parse room (suc n) (next ∷ more)) (λ xs. Ok (a.0 ∷ xs)) es a.2 in
      let t = line_takes l n a.0 a.1 in
      let h = items_found room (suc n) next more b.0 b.1 in
      one_more room l next more a.0 b.0 es t h b.2

-- ---- the whole text

headed_ok : {H : Type 0} (r : Taken H) (h : H) → after_header r ≡ Ok h → (ws : List Word) × (r ≡ Ok (h, ws))
headed_ok {H = H} (Ok x) h e = (x.1, ap (λ (y : H). taken_made y x.1) (item_is x.0 h e))
headed_ok (Err f) h e = absurd cc

abbrev pair_made : {H A : Type 0} → H → List A → Result (H × List A) ReadFault
pair_made h es = Ok (h, es)

pair_is : {H A : Type 0} (h g : H) (es fs : List A) → pair_made h es ≡ pair_made g fs → (h ≡ g) × (es ≡ fs)
pair_is {H = H} {A = A} h g es fs e =
    let a : H × List A = (h, es) in
    let b : H × List A = (g, fs) in
    let same : a ≡ b = item_is a b e in
    (ap (λ (x : H × List A). x.0) same, ap (λ (x : H × List A). x.1) same)

module _ {H A : Type 0} (head_words : H → List Word) (head : List Word → Taken H) (HeadFits : H → Type 0)
    (head_format : IsFormat head_words head HeadFits)
    (words : A → List Word) (parse : H → List Word → Taken A) (Fits : H → A → Type 0)
    (formats : (h : H) → IsFormat words (parse h) (Fits h)) where
  abbrev text_with : H → List A → List ℕ
  text_with h es = line (head_words h) ++ flat_map (λ e. line (words e)) es

  header_again : (h : H) → HeadFits h → header_line head (join_with_byte 32 (head_words h)) ≡ Ok h
  header_again h fits = grind (arith, nat_tests, words_of-words)

  -- what has a text is read from it
  pub text_again : (limit : ℕ) (h : H) (es : List A) → HeadFits h → AllByRecursion (Fits h) es → length es ≤ limit
      → lines_at head parse limit (lines_of (text_with h es)) ≡ Ok (h, es)
  text_again limit h es head_fits fit le =
      let rest : List ℕ = flat_map (λ e. line (words e)) es in
      let cut : lines_of (text_with h es) ≡ join_with_byte 32 (head_words h) ∷ lines_of rest =
      lines_of-line (head_words h) rest (head_format.plain h head_fits) in
      both_parts head parse limit (lines_of (text_with h es)) h (left_of rest 2 limit) es
      (some_header head limit (text_with h es) (join_with_byte 32 (head_words h)) rest h cut
      (sym (header_again h head_fits))) (items_again words (parse h) (Fits h) (formats h) es limit 2 fit le)

  header_takes : (l : List ℕ) (h : H) → header_line head l ≡ Ok h → (l ++ 10 ∷ [] ≡ line (head_words h)) × HeadFits h
  header_takes l h e =
      let p = headed_ok (head (words_of l)) h e in
      let t = head_format.takes (words_of l) (h, p.0) p.1 in
      let whole : l ≡ join_with_byte 32 (head_words h) = sym (join_with_byte-slice_split 32 l)
      ∙ ap (join_with_byte 32) t.0 in
      (ap (λ (x : List ℕ). x ++ 10 ∷ []) whole, t.1)

  -- the header and the items that were found in the bytes
  pub record IsRead (limit : ℕ) (bytes : List ℕ) (h : H) (es : List A) : Type 0 where
    pub head_fits : HeadFits h
    pub fit : AllByRecursion (Fits h) es
    pub few : length es ≤ limit
    pub whole : bytes ≡ text_with h es

  first_and_rest : (limit : ℕ) (bytes l next : List ℕ) (more : List (List ℕ)) (h : H) (es : List A) (g : H)
      (fs : List A) → l ++ (10 ∷ join_with_byte 10 (next ∷ more)) ≡ bytes → (l ++ 10 ∷ [] ≡ line (head_words h))
      × HeadFits h
      → Found words (parse h) (Fits h) (formats h) limit (next ∷ more) es → pair_made h es ≡ Ok (g, fs)
      → IsRead limit bytes g fs
  first_and_rest limit bytes l next more h es g fs same t found e = grind (arith, nat_tests, append_assoc, pair_is)

  lines_read : (limit : ℕ) (bytes : List ℕ) (parts : List (List ℕ)) (g : H) (fs : List A)
      → join_with_byte 10 parts ≡ bytes → lines_at head parse limit parts ≡ Ok (g, fs) → IsRead limit bytes g fs
  unfolding lines_at
  lines_read limit bytes [] g fs same e = absurd cc
  lines_read limit bytes (rest ∷ []) g fs same e = absurd cc
  lines_read limit bytes (l ∷ next ∷ more) g fs same e =
      let a = bind_ok (header_line head l) (λ h. items_at (parse h) limit 2 (next ∷ more) >>= λ es. Ok (h, es))
      (g, fs) e in
      let b = bind_ok (items_at (parse a.0) limit 2 (next ∷ more)) (λ es. Ok (a.0, es)) (g, fs) a.2 in
      first_and_rest limit bytes l next more a.0 b.0 g fs same (header_takes l a.0 a.1)
      (items_found words (parse a.0) (Fits a.0) (formats a.0) limit 2 next more b.0 b.1) b.2

  -- what is read has that text
  pub text_read : (limit : ℕ) (bytes : List ℕ) (h : H) (es : List A)
      → lines_at head parse limit (lines_of bytes) ≡ Ok (h, es) → IsRead limit bytes h es
  text_read limit bytes h es e = lines_read limit bytes (lines_of bytes) h es (join_with_byte-slice_split 10 bytes) e

  -- no two have one text
  pub text_one : (h g : H) (es fs : List A) → HeadFits h → AllByRecursion (Fits h) es → HeadFits g
      → AllByRecursion (Fits g) fs → text_with h es ≡ text_with g fs → (h ≡ g) × (es ≡ fs)
  text_one h g es fs head_fits fit head_fits_too fit_too same =
      let limit : ℕ = length es + length fs in
      pair_is h g es fs (sym (text_again limit h es head_fits fit (omega arith))
      ∙ ap (λ (x : List ℕ). lines_at head parse limit (lines_of x)) same
      ∙ text_again limit g fs head_fits_too fit_too (omega arith))
