-- The text on a page, as a list of ASCII codes.
use Rattle.std.specs.Prelude.{ℕ, ◌-◌, List, ◌++◌, length, take, replicate}
use Rattle.page.specs.declared.Page.{Page}
use Rattle.page.specs.Characters.{blank}

-- a page's text is its first len bytes
unfoldable pub text_of : Page → List ℕ
text_of p = take p.len p.bytes

-- a text with more behind it, cut where the page ends
unfoldable pub extended : List ℕ → List ℕ → List ℕ
extended text more = take 1024 (text ++ more)

-- a text at the left of a column
unfoldable pub left_text : ℕ → List ℕ → List ℕ
left_text width text = text ++ replicate (width - length text) blank
