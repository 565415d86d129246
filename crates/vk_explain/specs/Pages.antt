-- What is told without a text.
use Rattle.std.specs.Prelude.{ℕ, List, ◌++◌, codes}
use Rattle.vk_explain.specs.declared.words.Page.{Page}
use Rattle.vk_explain.specs.declared.words.Page.TheVariants as pages

abbrev pub version_text : List ℕ
version_text = codes "vkexplain 1.0.0\n"

abbrev pub about_text : List ℕ
about_text = codes "Reads a trace, or one with answers, and tells what is wrong first in it.\n\nUsage: vkexplain [OPTIONS] < TEXT\n\n"

abbrev pub options_text : List ℕ
options_text =
    codes "Options:\n      --answers  Write the text with each answer that the kernel gives\n"
    ++ codes "      --help     Print help\n      --version  Print version\n"

abbrev pub examples_text : List ℕ
examples_text = codes "\nExamples:\n  vkexplain < trace\n  vkexplain --answers < trace > observed\n"

unfoldable pub page_text : Page → List ℕ
page_text pages.Help = about_text ++ options_text ++ examples_text
page_text pages.Version = version_text
