-- The texts of the replies.
use Rattle.std.specs.Prelude.{ℕ, List, ◌++◌, codes}
use Rattle.std.specs.Fmt.{decimal, signed_decimal}
use Rattle.csv_rows.specs.Words.{kind_word, reason_word}
use Rattle.csv_rows.specs.declared.reply.Reply.{Reply}
use Rattle.csv_rows.specs.declared.reply.Reply.TheVariants.{Version, Refused, Dropped, Answer, Bad, Full, NoVersion}

-- the text of a reply, with the line feed that ends it
abbrev pub reply_text : Reply → List ℕ
reply_text (Version version) = codes "version," ++ decimal version ++ codes "\n"
reply_text (Refused refusal) = codes "refused," ++ decimal refusal.place ++ codes "," ++ reason_word refusal.reason ++ codes "\n"
reply_text (Dropped session) = codes "dropped," ++ decimal session ++ codes "\n"
reply_text (Answer kind version value) = kind_word kind ++ codes "," ++ decimal version ++ codes "," ++ signed_decimal value ++ codes "\n"
reply_text (Bad line) = codes "bad," ++ decimal line ++ codes "\n"
reply_text (Full line) = codes "full," ++ decimal line ++ codes "\n"
reply_text (NoVersion line) = codes "noversion," ++ decimal line ++ codes "\n"
