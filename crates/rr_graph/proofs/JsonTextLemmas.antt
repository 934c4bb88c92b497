-- The text of JSON data, with a line feed behind it, is UTF-8 and is read back as the data (RFC 8259).
use Rattle.std.proofs.Common.{◌≡◌, ℕ, suc, ◌^◌, ◌<◌, ◌≤◌, max, Bool, true, false, cond, ◌&&◌, List, [], ◌∷◌, ◌++◌, Some, decimal, refl, sym, ap, ap₂, ◌∙◌}
use Rattle.std.proofs.Common.{Option, option_and_then, option_map, append_assoc, append-nil, Greater, arith}
use Rattle.std.specs.Cmp.Lexicographic.{slice_cmp}
use Rattle.std.specs.Ordering.{nat_cmp, match_ordering}
use Rattle.std.specs.Prelude.{⊤}
use Rattle.std.specs.Str.{IsUtf8}
use Rattle.std.proofs.lemmas.Fmt.{IsAscii-decimal}
use Rattle.std.proofs.lemmas.Str.{IsUtf8-append, IsUtf8-from_ascii}
use Rattle.json.specs.Json as json
use Rattle.json.specs.Lex.{Lexeme, token, comma, colon, string_token, lex, between, fresh, punctuate, tokens}
use Rattle.json.specs.Print.{escape, quoted, token_text, begins, ends, print_from, print, IsPrintable, ArePrintable}
use Rattle.json.specs.Token.{Token, begin_object, end_object, begin_array, end_array, key, bad}
use Rattle.json.specs.Tree as tree
use Rattle.json.specs.Word.{ends_word, word}
use Rattle.json.proofs.Printed.Decimals.{IsNumber-decimal}
use Rattle.json.proofs.Printed.Numbers.{lex-number, in_word-ended}
use Rattle.json.proofs.Printed.Strings.{content-escape, lex-escape}
use Rattle.json.proofs.Printed.Tokens.{tokens-print}
use Rattle.json.proofs.Printed.Trees.{value-json_tokens, ArePrintable-json_tokens}
use Rattle.json.proofs.Printed.Utf8.{IsUtf8-are_ascii, IsUtf8-quoted, IsUtf8-boolean}
use Rattle.serde_json.specs.Data.{Num, unsigned, negative, float, Data, null, boolean, number, string, array, object, Items, no_items, item, Members}
use Rattle.serde_json.specs.Data.{no_members, member, put, depth, items_depth, members_depth}
use Rattle.serde_json.specs.Read.{of_json, of_items, of_members, max_depth, read}
use Rattle.serde_json.specs.Written.{outline, items_outline, members_outline, comma_if, compact_text, items_text, members_text}
use Rattle.serde_json.proofs.Numbers.{number_of-decimal}
use Rattle.serde_json.proofs.Texts.{print-outline}

-- ---- what stands behind the tokens of a text

abbrev token_lexemes : Token → List Lexeme
token_lexemes begin_object = token begin_object ∷ []
token_lexemes end_object = token end_object ∷ []
token_lexemes begin_array = token begin_array ∷ []
token_lexemes end_array = token end_array ∷ []
token_lexemes (key s) = token (Token.string s) ∷ colon ∷ []
token_lexemes (Token.string s) = token (Token.string s) ∷ []
token_lexemes (Token.number s) = token (Token.number s) ∷ []
token_lexemes (Token.boolean b) = token (Token.boolean b) ∷ []
token_lexemes Token.null = token Token.null ∷ []
token_lexemes bad = []

abbrev lexemes : Bool → List Token → List Lexeme
lexemes c [] = []
lexemes c (t ∷ ts) = cond (c && begins t) (comma ∷ []) [] ++ (token_lexemes t ++ lexemes (ends t) ts)

lex-quoted : (s r : List ℕ) → lex between (quoted s ++ r) ≡ token (Token.string s) ∷ lex between r
unfolding lex
lex-quoted s r =
    let e = append_assoc (escape s) (34 ∷ []) r in
    ap (λ l. lex between (34 ∷ l)) e ∙ ap₂ (λ o l. token (string_token o) ∷ l) (content-escape s r) (lex-escape s r)

lex-token_text : (t : Token) (r : List ℕ) → IsPrintable t → (ends t ≡ true → ends_word r ≡ true)
    → lex between (token_text t ++ r) ≡ token_lexemes t ++ lex between r
unfolding lex word
lex-token_text begin_object r h ended = refl
lex-token_text end_object r h ended = refl
lex-token_text begin_array r h ended = refl
lex-token_text end_array r h ended = refl
lex-token_text (key s) r h ended = ap (lex between) (append_assoc (quoted s) (58 ∷ []) r) ∙ lex-quoted s (58 ∷ r)
lex-token_text (Token.string s) r h ended = lex-quoted s r
lex-token_text (Token.number s) r h ended = lex-number s r h (ended refl)
lex-token_text (Token.boolean true) r h ended = ap₂ (λ b l. token (cond b (Token.boolean true) bad) ∷ l) (ended refl) (in_word-ended r (ended refl))
lex-token_text (Token.boolean false) r h ended = ap₂ (λ b l. token (cond b (Token.boolean false) bad) ∷ l) (ended refl) (in_word-ended r (ended refl))
lex-token_text Token.null r h ended = ap₂ (λ b l. token (cond b Token.null bad) ∷ l) (ended refl) (in_word-ended r (ended refl))
lex-token_text bad r h ended = absurd h

lex-separator : (b : Bool) (r : List ℕ) → lex between (cond b (44 ∷ []) [] ++ r) ≡ cond b (comma ∷ []) [] ++ lex between r
unfolding lex
lex-separator true r = refl
lex-separator false r = refl

-- after a value stands a comma, a closing bracket or what stands behind
after_value_ends : (ts : List Token) (behind : List ℕ) → ends_word behind ≡ true → ends_word (print_from true ts ++ behind) ≡ true
unfolding print_from
after_value_ends [] behind h = h
after_value_ends (begin_object ∷ ts) behind h = refl
after_value_ends (end_object ∷ ts) behind h = refl
after_value_ends (begin_array ∷ ts) behind h = refl
after_value_ends (end_array ∷ ts) behind h = refl
after_value_ends (key s ∷ ts) behind h = refl
after_value_ends (Token.string s ∷ ts) behind h = refl
after_value_ends (Token.number s ∷ ts) behind h = refl
after_value_ends (Token.boolean b ∷ ts) behind h = refl
after_value_ends (Token.null ∷ ts) behind h = refl
after_value_ends (bad ∷ ts) behind h = refl

three : (a b c d : List ℕ) → (a ++ (b ++ c)) ++ d ≡ a ++ (b ++ (c ++ d))
three a b c d = append_assoc a (b ++ c) d ∙ ap (λ (l : List ℕ). a ++ l) (append_assoc b c d)

lex-behind : (c : Bool) (ts : List Token) (behind : List ℕ) → ArePrintable ts → ends_word behind ≡ true
    → lex between (print_from c ts ++ behind) ≡ lexemes c ts ++ lex between behind
unfolding print_from ArePrintable
lex-behind c [] behind h e = refl
lex-behind c (t ∷ ts) behind h e =
    let comma_text : List ℕ = cond (c && begins t) (44 ∷ []) [] in
    let comma_lexeme : List Lexeme = cond (c && begins t) (comma ∷ []) [] in
    let rest = print_from (ends t) ts ++ behind in
    ap (lex between) (three comma_text (token_text t) (print_from (ends t) ts) behind) ∙ lex-separator (c && begins t) (token_text t ++ rest)
    ∙ ap (λ (l : List Lexeme). comma_lexeme ++ l)
    (lex-token_text t rest h.0 (λ f. ap (λ (b : Bool). ends_word (print_from b ts ++ behind)) f ∙ after_value_ends ts behind e)
    ∙ ap (λ (l : List Lexeme). token_lexemes t ++ l) (lex-behind (ends t) ts behind h.1 e))
    ∙ sym (append_assoc comma_lexeme (token_lexemes t ++ lexemes (ends t) ts) (lex between behind)
    ∙ ap (λ (l : List Lexeme). comma_lexeme ++ l) (append_assoc (token_lexemes t) (lexemes (ends t) ts) (lex between behind)))

-- blanks behind a text change nothing
tokens-behind : (ts : List Token) (behind : List ℕ) → ArePrintable ts → ends_word behind ≡ true → lex between behind ≡ []
    → tokens (print ts ++ behind) ≡ ts
unfolding lex
tokens-behind ts behind h e none =
    ap (punctuate fresh)
    (lex-behind false ts behind h e ∙ ap (λ (l : List Lexeme). lexemes false ts ++ l) none
    ∙ sym (ap (lex between) (sym (append-nil (print ts))) ∙ lex-behind false ts [] h refl))
    ∙ tokens-print ts h

-- ---- data that can be written

-- numbers from 0 to 18,446,744,073,709,551,615
abbrev pub IsWritableNumber : Num → Type 0
IsWritableNumber (unsigned n) = n < 2 ^ 64
IsWritableNumber (negative z) = ⊥
IsWritableNumber (float x) = ⊥

-- the members, then more
abbrev pub joined : Members → Members → Members
joined no_members more = more
joined (member k d ms) more = member k d (joined ms more)

-- the name is greater than those of all these members
abbrev pub IsBehind : List ℕ → Members → Type 0
IsBehind k no_members = ⊤
IsBehind k (member l d ms) = (slice_cmp nat_cmp k l ≡ Greater) × IsBehind k ms

-- texts are UTF-8, numbers are whole, and the names of an object's members rise
abbrev mutual
  pub IsWritable : Data → Type 0
  IsWritable null = ⊤
  IsWritable (boolean b) = ⊤
  IsWritable (number n) = IsWritableNumber n
  IsWritable (string s) = IsUtf8 s
  IsWritable (array ds) = AreWritableItems ds
  IsWritable (object ms) = AreWritableMembers no_members ms

  pub AreWritableItems : Items → Type 0
  AreWritableItems no_items = ⊤
  AreWritableItems (item d ds) = IsWritable d × AreWritableItems ds

  pub AreWritableMembers : Members → Members → Type 0
  AreWritableMembers before no_members = ⊤
  AreWritableMembers before (member k d ms) = IsBehind k before × IsUtf8 k × IsWritable d × AreWritableMembers (joined before (member k d no_members)) ms

-- ---- its text is UTF-8

IsUtf8-comma : (later : Bool) → IsUtf8 (comma_if later)
IsUtf8-comma true = IsUtf8-are_ascii (44 ∷ []) refl
IsUtf8-comma false = IsUtf8-are_ascii [] refl

mutual
  pub IsUtf8-compact_text : (d : Data) → IsWritable d → IsUtf8 (compact_text d)
  IsUtf8-compact_text null h = IsUtf8-are_ascii (110 ∷ 117 ∷ 108 ∷ 108 ∷ []) refl
  IsUtf8-compact_text (boolean b) h = IsUtf8-boolean b
  IsUtf8-compact_text (number (unsigned n)) h = IsUtf8-from_ascii (decimal n) (IsAscii-decimal n h)
  IsUtf8-compact_text (number (negative z)) h = absurd h
  IsUtf8-compact_text (number (float x)) h = absurd h
  IsUtf8-compact_text (string s) h = IsUtf8-quoted s h
  IsUtf8-compact_text (array ds) h = IsUtf8-append (91 ∷ []) _ (IsUtf8-are_ascii (91 ∷ []) refl) (IsUtf8-items_text false ds h)
  IsUtf8-compact_text (object ms) h = IsUtf8-append (123 ∷ []) _ (IsUtf8-are_ascii (123 ∷ []) refl) (IsUtf8-members_text false no_members ms h)

  IsUtf8-items_text : (later : Bool) (ds : Items) → AreWritableItems ds → IsUtf8 (items_text later ds)
  IsUtf8-items_text later no_items h = IsUtf8-are_ascii (93 ∷ []) refl
  IsUtf8-items_text later (item d ds) h =
      IsUtf8-append _ _ (IsUtf8-comma later) (IsUtf8-append _ _ (IsUtf8-compact_text d h.0) (IsUtf8-items_text true ds h.1))

  IsUtf8-members_text : (later : Bool) (before ms : Members) → AreWritableMembers before ms → IsUtf8 (members_text later ms)
  IsUtf8-members_text later before no_members h = IsUtf8-are_ascii (125 ∷ []) refl
  IsUtf8-members_text later before (member k d ms) h =
      let rest = IsUtf8-append _ _ (IsUtf8-compact_text d h.2) (IsUtf8-members_text true (joined before (member k d no_members)) ms h.3) in
      IsUtf8-append _ _ (IsUtf8-comma later) (IsUtf8-append _ _ (IsUtf8-quoted k h.1) (IsUtf8-append (58 ∷ []) _ (IsUtf8-are_ascii (58 ∷ []) refl) rest))

-- ---- its tokens are read back

mutual
  HasNumbers-outline : (d : Data) → IsWritable d → tree.HasNumbers (outline d)
  HasNumbers-outline null h = tt
  HasNumbers-outline (boolean b) h = tt
  HasNumbers-outline (number (unsigned n)) h = IsNumber-decimal n h
  HasNumbers-outline (number (negative z)) h = absurd h
  HasNumbers-outline (number (float x)) h = absurd h
  HasNumbers-outline (string s) h = tt
  HasNumbers-outline (array ds) h = ItemsHaveNumbers-outline ds h
  HasNumbers-outline (object ms) h = MembersHaveNumbers-outline no_members ms h

  ItemsHaveNumbers-outline : (ds : Items) → AreWritableItems ds → tree.ItemsHaveNumbers (items_outline ds)
  ItemsHaveNumbers-outline no_items h = tt
  ItemsHaveNumbers-outline (item d ds) h = (HasNumbers-outline d h.0, ItemsHaveNumbers-outline ds h.1)

  MembersHaveNumbers-outline : (before ms : Members) → AreWritableMembers before ms → tree.MembersHaveNumbers (members_outline ms)
  MembersHaveNumbers-outline before no_members h = tt
  MembersHaveNumbers-outline before (member k d ms) h =
      (HasNumbers-outline d h.2, MembersHaveNumbers-outline (joined before (member k d no_members)) ms h.3)

mutual
  depth-outline : (d : Data) → tree.depth (outline d) ≡ depth d
  depth-outline null = refl
  depth-outline (boolean b) = refl
  depth-outline (number n) = refl
  depth-outline (string s) = refl
  depth-outline (array ds) = ap suc (items_depth-outline ds)
  depth-outline (object ms) = ap suc (members_depth-outline ms)

  items_depth-outline : (ds : Items) → tree.items_depth (items_outline ds) ≡ items_depth ds
  items_depth-outline no_items = refl
  items_depth-outline (item d ds) = ap₂ max (depth-outline d) (items_depth-outline ds)

  members_depth-outline : (ms : Members) → tree.members_depth (members_outline ms) ≡ members_depth ms
  members_depth-outline no_members = refl
  members_depth-outline (member k d ms) = ap₂ max (depth-outline d) (members_depth-outline ms)

joined-none : (ms : Members) → joined ms no_members ≡ ms
joined-none no_members = refl
joined-none (member k d ms) = ap (member k d) (joined-none ms)

joined-joined : (a b c : Members) → joined (joined a b) c ≡ joined a (joined b c)
joined-joined no_members b c = refl
joined-joined (member k d ms) b c = ap (member k d) (joined-joined ms b c)

-- a member whose name is greater than those of all others is put behind them
put-last : (k : List ℕ) (d : Data) (ms : Members) → IsBehind k ms → put k d ms ≡ joined ms (member k d no_members)
put-last k d no_members h = refl
put-last k d (member l e ms) h =
    ap (λ o. match_ordering o (member k d (member l e ms)) (member l d ms) (member l e (put k d ms))) h.0 ∙ ap (member l e) (put-last k d ms h.1)

mutual
  of_json-outline : (d : Data) → IsWritable d → of_json (outline d) ≡ Some d
  of_json-outline null h = refl
  of_json-outline (boolean b) h = refl
  of_json-outline (number (unsigned n)) h = ap (option_map number) (number_of-decimal n h)
  of_json-outline (number (negative z)) h = absurd h
  of_json-outline (number (float x)) h = absurd h
  of_json-outline (string s) h = refl
  of_json-outline (array ds) h = ap (option_map array) (of_items-outline ds h)
  of_json-outline (object ms) h = ap (option_map object) (of_members-outline no_members ms h)

  of_items-outline : (ds : Items) → AreWritableItems ds → of_items (items_outline ds) ≡ Some ds
  of_items-outline no_items h = refl
  of_items-outline (item d ds) h =
      ap (option_and_then (λ e. option_map (item e) (of_items (items_outline ds)))) (of_json-outline d h.0)
      ∙ ap (option_map (item d)) (of_items-outline ds h.1)

  of_members-outline : (before ms : Members) → AreWritableMembers before ms → of_members (members_outline ms) before ≡ Some (joined before ms)
  of_members-outline before no_members h = ap Some (sym (joined-none before))
  of_members-outline before (member k d ms) h =
      let next = joined before (member k d no_members) in
      ap (option_and_then (λ e. of_members (members_outline ms) (put k e before))) (of_json-outline d h.2)
      ∙ ap (of_members (members_outline ms)) (put-last k d before h.0) ∙ of_members-outline next ms h.3
      ∙ ap Some (joined-joined before (member k d no_members) ms)

-- ---- the text and a line feed

tokens-compact_text : (d : Data) → IsWritable d → tokens (compact_text d ++ 10 ∷ []) ≡ tree.json_tokens (outline d)
unfolding lex
tokens-compact_text d h =
    ap (λ (t : List ℕ). tokens (t ++ 10 ∷ [])) (sym (print-outline d))
    ∙ tokens-behind (tree.json_tokens (outline d)) (10 ∷ []) (ArePrintable-json_tokens (outline d) (HasNumbers-outline d h)) refl refl

-- the value that tokens are
abbrev value_of_tokens : List Token → Option Data
value_of_tokens ts = option_and_then of_json (option_and_then (λ p. json.if_last p.0 p.1) (json.value max_depth ts))

-- The text of data that can be written, with a line feed behind it, is read back as the data.
pub read-compact_text : (d : Data) → IsWritable d → depth d ≤ max_depth → read (compact_text d ++ 10 ∷ []) ≡ Some d
read-compact_text d h shallow =
    ap value_of_tokens (tokens-compact_text d h ∙ sym (append-nil (tree.json_tokens (outline d))))
    ∙ ap (λ r. option_and_then of_json (option_and_then (λ p. json.if_last p.0 p.1) r))
    (value-json_tokens (outline d) max_depth [] (omega (arith, depth-outline d, shallow)))
    ∙ of_json-outline d h

-- and is UTF-8
pub IsUtf8-line : (d : Data) → IsWritable d → IsUtf8 (compact_text d ++ 10 ∷ [])
IsUtf8-line d h = IsUtf8-append _ _ (IsUtf8-compact_text d h) (IsUtf8-are_ascii (10 ∷ []) refl)
