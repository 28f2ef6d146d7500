-- The command line of the program, as clap sees it, and what a line asks for
use Rattle.std.specs.Prelude.{◌≡◌, ℕ, Bool, List, [], ◌∷◌, ◌++◌, Option, Some, None, IfSome, IsSomeAnd, true, false, fold, map, option_map, codes, pos}
use Rattle.std.specs.{Str.Parse.IsNumeral, Str.Parse.digits_value, Str.Parse.without_leading_plus, Borrow.Bor}
use Rattle.std.specs.Prelude.{String, string_bytes, unwrap_or}
use Rattle.clap.specs.Words.{App, Row, Rule, Text, all_of, app_of, first_of, new_app, new_rule, one_of, rule_of}
use Rattle.clap.specs.Words.{with_rule, with_subcommand}
use Rattle.clap.specs.declared.builder.{arg.Arg.Arg, command.Command.Command, command.Command.TheViews.out-Command}
use Rattle.clap.specs.declared.builder.action.ArgAction.TheVariants.{Append, SetTrue}
use Rattle.clap.specs.declared.builder.value_parser.ValueParser.{ValueParser, TheVariants.Signed, TheVariants.Names}
use Rattle.monk_draw.specs.Asked.{numbers_meant, window_fault}
use Rattle.monk_draw.specs.declared.{text_form.TextLayout.TextLayout, window.Window.Window}
use Rattle.monk_kinds.specs.{Names.kind_word, Names.kinds as monitor_kinds, declared.name.KindName.KindName}
use Rattle.monk_judge.specs.declared.waits_for.WaitsFor.{WaitsFor}
use Rattle.monk_object.specs.Names.{object_word}
use Rattle.monk_samples.specs.Samples.{IsInRange, sample_object}
use Rattle.monk_samples.specs.declared.sample.Sample.{Sample, TheVariants.Buffer, TheVariants.Book, TheVariants.Shop}
use Rattle.monk_commands.specs.declared.request.Judging.{Judging}
use Rattle.monk_commands.specs.declared.request.Line.{Line}
use Rattle.monk_commands.specs.declared.request.Line.TheVariants.{Classify, Audit, Play, Upgrade, Fit, Trace, Explain}
use Rattle.monk_commands.specs.declared.request.Line.TheVariants.{Draw, DrawText, Page, Complete, Run, Record, Hasty}
use Rattle.monk_commands.specs.declared.fit_form.FitForm.{FitForm}
use Rattle.monk_commands.specs.declared.fit_form.FitForm.TheVariants.{Words, Named, Json}
use Rattle.monk_commands.specs.declared.word.Form.{Form}
use Rattle.monk_commands.specs.declared.word.Form.TheVariants.{Optional, Several, Required, Flag, Repeated, Chosen}
use Rattle.monk_commands.specs.declared.word.Word.{Word}
use Rattle.monk_commands.specs.declared.commands.CommandWords.{CommandWords}

-- ---- the words of a command

-- an option with a value that the parser takes
abbrev pub chosen_rule : Text → ValueParser → Rule
chosen_rule name parser = record (new_rule name) { long = Some name; parser = Some parser; value_names = 1 }

-- an option with a value, any number of times
abbrev pub repeated_rule : Text → Rule
repeated_rule name = record (new_rule name) { long = Some name; action = Some Append; value_names = 1 }

-- the rule of a word of that name and form
abbrev pub form_rule : Text → Form → Rule
form_rule name Optional = new_rule name
form_rule name Several = record (new_rule name) { action = Some Append }
form_rule name (Required parser) = record (new_rule name) { required = true; parser = Some parser }
form_rule name Flag = record (new_rule name) { long = Some name; action = Some SetTrue }
form_rule name (Repeated value) = repeated_rule name
form_rule name (Chosen value parser) = chosen_rule name parser

-- the rule of a word
abbrev pub word_rule : Word → Rule
word_rule w = form_rule w.0.now w.1

-- the argument has this rule, and isn't for subcommands too
pub record IsOwnArg (rule : Rule) (arg : Arg) : Type 0 where
  pub rule_is : rule_of arg ≡ rule
  pub own : arg.global ≡ false

-- ---- the commands

-- a command of that name with these rules
abbrev pub app_with : Text → List Rule → App
app_with name rules = fold with_rule (new_app name) rules

-- the command of these words
abbrev pub command_app : CommandWords → App
command_app c = app_with c.name.now (map word_rule c.words.now)

-- the command has these rules, and none that is for its subcommands too
pub record IsOwnApp (a : App) (c : Command) : Type 0 where
  pub is : app_of c ≡ a
  pub own : (out-Command c).has_globals ≡ false

-- the program without its commands
abbrev pub bare_app : App
bare_app =
    record (new_app (codes "monk")) {
      top =
          record (new_app (codes "monk")).top { has_version = true; subcommand_required = true };
    }

-- the program with these commands added
abbrev pub with_commands : App → List CommandWords → App
with_commands a cs = fold (λ b c. with_subcommand b (command_app c).top) a cs

-- a list of names, as clap holds it
abbrev pub NameList : Type 0
NameList = Bor (List (Bor Text))

-- the names of a list
abbrev pub words_in : NameList → List Text
words_in w = map (λ x. x.now) w.now

-- a sample has the name of its object
abbrev pub sample_word : Sample → Text
sample_word sample = object_word (sample_object sample)

-- each sample once
abbrev pub every_sample : List Sample
every_sample = Buffer ∷ Book ∷ Shop ∷ []

-- a file or none
abbrev pub file_rule : Rule
file_rule = form_rule (codes "FILE") Optional

-- any number of files
abbrev pub files_rule : Rule
files_rule = form_rule (codes "FILE") Several

-- a whole number in that range, which must be there
abbrev pub number_rule : Text → ℕ → ℕ → Rule
number_rule name least greatest = form_rule name (Required (Signed (pos least) (pos greatest)))

-- a kind that must be there
abbrev pub kind_rule : NameList → Rule
kind_rule kinds = form_rule (codes "KIND") (Required (Names kinds))

-- a kind or none
abbrev pub one_kind_rule : NameList → Rule
one_kind_rule kinds = chosen_rule (codes "kind") (Names kinds)

-- the first and the last of the events that are shown
abbrev pub window_rules : List Rule
window_rules =
    chosen_rule (codes "from") (Signed (pos 0) (pos 4294967295))
    ∷ chosen_rule (codes "to") (Signed (pos 0) (pos 4294967295)) ∷ []

-- a kind or none, and what is waited for in a log
abbrev pub judging_rules : NameList → List Rule
judging_rules kinds = one_kind_rule kinds ∷ repeated_rule (codes "means") ∷ []

-- how many seats and rounds
abbrev pub size_rules : List Rule
size_rules = number_rule (codes "SEATS") 2 16 ∷ number_rule (codes "ROUNDS") 1 1000 ∷ []

-- a kind, a sample, and how many seats and rounds
abbrev pub run_rules : NameList → NameList → List Rule
run_rules kinds samples = kind_rule kinds ∷ form_rule (codes "SAMPLE") (Required (Names samples)) ∷ size_rules

-- the commands by their names, with the rules of their words
abbrev pub every_command : NameList → NameList → List (Text × List Rule)
every_command kinds samples = (
  codes "classify",
  number_rule (codes "ENTRY") 0 255 ∷ number_rule (codes "WAITER") 0 255 ∷ number_rule (codes "SIGNALLER") 0 255
      ∷ [],
)
    ∷ (codes "audit", file_rule ∷ [])
    ∷ (codes "play", file_rule ∷ [])
    ∷ (codes "upgrade", file_rule ∷ [])
    ∷ (codes "fit", judging_rules kinds ++ form_rule (codes "json") Flag ∷ files_rule ∷ [])
    ∷ (codes "trace", file_rule ∷ [])
    ∷ (codes "explain", judging_rules kinds ++ file_rule ∷ [])
    ∷ (
      codes "draw",
      window_rules ++ form_rule (codes "text") Flag ∷ chosen_rule (codes "width") (Signed (pos 40) (pos 1000000))
          ∷ form_rule (codes "ascii") Flag ∷ file_rule ∷ [],
    )
    ∷ (codes "page", window_rules ++ files_rule ∷ [])
    ∷ (codes "complete", one_kind_rule kinds ∷ file_rule ∷ [])
    ∷ (codes "run", run_rules kinds samples)
    ∷ (codes "record", run_rules kinds samples)
    ∷ (codes "hasty", kind_rule kinds ∷ (size_rules ++ file_rule ∷ []))
    ∷ []

-- the program with its commands, by the names of the kinds and of the samples
abbrev pub monk_app : NameList → NameList → App
monk_app kinds samples =
    fold (λ a c. with_subcommand a (app_with c.0 c.1).top) bare_app (every_command kinds samples)

-- the command line of the program
pub record IsMonk (a : App) : Type 0 where
  pub kinds : NameList
  pub samples : NameList
  pub all_kinds : words_in kinds ≡ map kind_word monitor_kinds
  pub all_samples : words_in samples ≡ map sample_word every_sample
  pub is : a ≡ monk_app kinds samples

-- ---- what a line asks for

-- a whole number in digits
pub record IsInDigits (text : Text) (n : ℕ) : Type 0 where
  pub digits : IsNumeral 10 (without_leading_plus text)
  pub number : n ≡ digits_value 10 (without_leading_plus text)

-- a whole number in digits that clap has found for a name, in the rows of a command
pub record HasNumber (name : Text) (n : ℕ) (rows : List Row) : Type 0 where
  pub text : Text
  pub found : one_of name rows ≡ Some text
  pub is : IsInDigits text n

-- the same, but clap may have found none
abbrev pub MayHaveNumber : Text → Option ℕ → List Row → Type 0
MayHaveNumber name None rows = one_of name rows ≡ None
MayHaveNumber name (Some n) rows = HasNumber name n rows

-- the events that are asked for are those that the numbers for `from` and `to` mean, and these are fine
pub record IsWindowIn (window : Option Window) (rows : List Row) : Type 0 where
  pub from : Option ℕ
  pub to : Option ℕ
  pub found_from : MayHaveNumber (codes "from") from rows
  pub found_to : MayHaveNumber (codes "to") to rows
  pub meant : option_map (λ (w : Window). (w.from, w.to)) window ≡ numbers_meant from to
  pub fine : IfSome (numbers_meant from to) (λ n. window_fault n.0 n.1 ≡ None)

-- the flag of that name that clap has found, if any, says whether it is set
pub record IsFlag (name : Text) (is_set : Bool) (rows : List Row) : Type 0 where
  pub none : one_of name rows ≡ None → is_set ≡ false
  pub set : one_of name rows ≡ Some (codes "true") → is_set ≡ true
  pub unset : one_of name rows ≡ Some (codes "false") → is_set ≡ false

-- how wide a picture of text is if no width is given
abbrev pub usual_width : ℕ
usual_width = 80

-- a picture of text is asked for, in this layout
pub record IsLayout (layout : TextLayout) (rows : List Row) : Type 0 where
  pub text : IsFlag (codes "text") true rows
  pub width : Option ℕ
  pub found_width : MayHaveNumber (codes "width") width rows
  pub is_width : layout.width ≡ unwrap_or width usual_width
  pub ascii : IsFlag (codes "ascii") layout.is_ascii rows

-- no picture of text is asked for, and no layout of one
pub record IsNoLayout (rows : List Row) : Type 0 where
  pub text : IsFlag (codes "text") false rows
  pub width : MayHaveNumber (codes "width") None rows
  pub ascii : IsFlag (codes "ascii") false rows

-- whether findings are written as JSON
abbrev pub is_json : FitForm → Bool
is_json Words = false
is_json Named = false
is_json Json = true

-- a word COND=PRED says what threads wait for: two numbers, with the sign `=` between them
pub record IsMeaning (word : Text) (w : WaitsFor) : Type 0 where
  pub cond : Text
  pub pred : Text
  pub parts : word ≡ cond ++ codes "=" ++ pred
  pub is_cond : IsInDigits cond w.cond
  pub is_pred : IsInDigits pred w.pred

-- word by word
abbrev pub AreMeanings : List Text → List WaitsFor → Type 0
AreMeanings [] [] = Unit {0}
AreMeanings [] (w ∷ ws) = ⊥
AreMeanings (t ∷ ts) [] = ⊥
AreMeanings (t ∷ ts) (w ∷ ws) = IsMeaning t w × AreMeanings ts ws

-- the words that clap has found for a name, if any
abbrev pub words_or_none : Option (List Text) → List Text
words_or_none None = []
words_or_none (Some words) = words

-- the file that is named first, if one is
abbrev pub IsFile : {A : Type 0} → Option (String A) → List Row → Type 0
IsFile file rows = first_of (codes "FILE") rows ≡ option_map string_bytes file

-- the files that are named
abbrev pub AreFiles : {A : Type 0} → List (String A) → List Row → Type 0
AreFiles files rows = words_or_none (all_of (codes "FILE") rows) ≡ map string_bytes files

-- the kind that is named by an option, if one is
abbrev pub IsOneKind : Option KindName → List Row → Type 0
IsOneKind kind rows = first_of (codes "kind") rows ≡ option_map kind_word kind

-- how to judge is what clap has found: a kind, and what is waited for
pub record AreJudging (j : Judging) (rows : List Row) : Type 0 where
  pub kind : IsOneKind j.kind rows
  pub means : AreMeanings (words_or_none (all_of (codes "means") rows)) j.means.items

-- seats and rounds are those that clap has found
abbrev pub AreSizes : ℕ → ℕ → List Row → Type 0
AreSizes seats rounds rows = HasNumber (codes "SEATS") seats rows × HasNumber (codes "ROUNDS") rounds rows

-- so are a kind, a sample, seats and rounds
abbrev pub AreRunValues : KindName → Sample → ℕ → ℕ → List Row → Type 0
AreRunValues kind sample seats rounds rows =
    (first_of (codes "KIND") rows ≡ Some (kind_word kind))
    × (first_of (codes "SAMPLE") rows ≡ Some (sample_word sample))
    × AreSizes seats rounds rows

-- the line is for the command of that name, with the values that clap has found in its rows
abbrev pub IsFor : Line → Text → List Row → Type 0
IsFor (Classify e w s) name rows = (name ≡ codes "classify") × HasNumber (codes "ENTRY") e rows
    × HasNumber (codes "WAITER") w rows × HasNumber (codes "SIGNALLER") s rows
IsFor (Audit file) name rows = (name ≡ codes "audit") × IsFile file rows
IsFor (Play file) name rows = (name ≡ codes "play") × IsFile file rows
IsFor (Upgrade file) name rows = (name ≡ codes "upgrade") × IsFile file rows
IsFor (Fit files judging form) name rows = (name ≡ codes "fit") × AreFiles files.items rows
    × AreJudging judging rows × IsFlag (codes "json") (is_json form) rows
IsFor (Trace file) name rows = (name ≡ codes "trace") × IsFile file rows
IsFor (Explain file judging) name rows = (name ≡ codes "explain") × IsFile file rows × AreJudging judging rows
IsFor (Draw file window) name rows = (name ≡ codes "draw") × IsFile file rows × IsWindowIn window rows
    × IsNoLayout rows
IsFor (DrawText file window layout) name rows = (name ≡ codes "draw") × IsFile file rows
    × IsWindowIn window rows × IsLayout layout rows
IsFor (Page files window) name rows = (name ≡ codes "page") × AreFiles files.items rows × IsWindowIn window rows
IsFor (Complete file kind) name rows = (name ≡ codes "complete") × IsFile file rows × IsOneKind kind rows
IsFor (Run kind sample seats rounds) name rows = (name ≡ codes "run") × AreRunValues kind sample seats rounds rows
IsFor (Record kind sample seats rounds) name rows =
    (name ≡ codes "record") × AreRunValues kind sample seats rounds rows
IsFor (Hasty kind seats rounds file) name rows = (name ≡ codes "hasty")
    × (first_of (codes "KIND") rows ≡ Some (kind_word kind)) × AreSizes seats rounds rows × IsFile file rows

-- a run is asked for only within its ranges
abbrev pub RunIsInRange : Line → Type 0
RunIsInRange (Classify e w s) = Unit {0}
RunIsInRange (Audit file) = Unit {0}
RunIsInRange (Play file) = Unit {0}
RunIsInRange (Upgrade file) = Unit {0}
RunIsInRange (Fit files judging form) = Unit {0}
RunIsInRange (Trace file) = Unit {0}
RunIsInRange (Explain file judging) = Unit {0}
RunIsInRange (Draw file window) = Unit {0}
RunIsInRange (DrawText file window layout) = Unit {0}
RunIsInRange (Page files window) = Unit {0}
RunIsInRange (Complete file kind) = Unit {0}
RunIsInRange (Run kind sample seats rounds) = IsInRange seats rounds
RunIsInRange (Record kind sample seats rounds) = IsInRange seats rounds
RunIsInRange (Hasty kind seats rounds file) = IsInRange seats rounds

-- the line is what the rows of this command ask for
pub record IsRead (name : Text) (l : Line) (rows : List Row) : Type 0 where
  pub is_for : IsFor l name rows
  pub in_range : RunIsInRange l

-- the line is for the command that clap has found in the words, with the values that it has found there
abbrev pub IsAsked : Line → Option (Text × List Row) → Type 0
IsAsked l found = IsSomeAnd found (λ p. IsRead p.0 l p.1)
